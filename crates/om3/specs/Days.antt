-- Document 01, "Columns", and document 02's second wish: the day change. Assumes nothing.
--
--   day n d                the hours of day d of n hours; before d, the hours before that day
--   change_of earlier own   the change of a day, by the answer of the hours before it and by its own; or no reading
--   examine_before own      the examination of the hours before a day whose own answer this is
--   day_checks n t d        the checks of the call for the day change; day_change n t d, what it answers
--   days_of n               the days of n hours
--   added_by change         what a day adds to the sum of all days
--   span_of answer          last reading minus first reading of an answer; 0, if it has none
use Rattle.std.specs.Prelude.{cond, List, [], ◌∷◌, ℕ, ◌+◌, ◌*◌, min, eqb, ltb, ℤ, pos, ◌-ℤ◌, Err, None, Ok, Option}
use Rattle.std.specs.Prelude.{Result, Some}
use Rattle.words.specs.declared.Refusal.{Refusal}
use Rattle.words.specs.declared.Summary.{Summary}
use Rattle.words.specs.Constants.{day_hours}
use Rattle.words.specs.declared.Column.{Column}
use Rattle.om3.specs.Lists.{up_from, keep}
use Rattle.om3.specs.Series.{levels, hour}
use Rattle.om3.specs.Table.{Table}
use Rattle.om3.specs.Checks.{Check, passes, in_order, answer_by}
use Rattle.om3.specs.Refusals.{check_hours, check_room, table_short, check_day}
use Rattle.om3.specs.Stopped.{examine_column}
use Rattle.om3.specs.Finished.{answer, finished_nodes}

-- Day d: hours 24·d to 24·d + 23, cut at n. [columns 21]
abbrev pub day : (n d : ℕ) → Column
day n d = record { from = hour (day_hours * d); upto = hour (min (day_hours * d + day_hours) n) }

-- The hours before day d, of whatever day: from 0 up to, not including, 24·d. [wish2 2]
abbrev pub before : (d : ℕ) → Column
before d = record { from = hour 0; upto = hour (day_hours * d) }

-- The day's last reading minus the latest reading before that day; with none earlier, minus its own first reading. A
-- day with no reading says so. Document 01 took the day's own first reading always, and what came in at midnight was
-- lost. [wish2 1, 2, 3] [columns 21]
abbrev pub change_of : (earlier own : Option Summary) → Result (Option ℤ) Refusal
change_of earlier None = Ok None
change_of None (Some own) = Ok (Some (own.last.grams -ℤ own.first.grams))
change_of (Some earlier) (Some own) = Ok (Some (own.last.grams -ℤ earlier.last.grams))

module _ (n : ℕ) (t : Table) (d : ℕ) where
  -- If the day has a reading and is not day 0, the hours before it are examined as one finished column over all of
  -- them. [wish2 6]
  abbrev pub examine_before : (own : Option Summary) → Check
  examine_before None = passes
  examine_before (Some own) =
      let l = levels n in
      let x = before d in
      cond (eqb d 0) passes (examine_column l t x n (finished_nodes l t x))

  -- Day: 1, 3, 5, 4. It examines as a finished column over the day's hours; then come the hours before it.
  -- [refusals 17] [columns 22] [wish2 7]
  abbrev pub day_checks : List Check
  day_checks =
      let l = levels n in
      let x = day n d in
      check_hours n
      ∷ check_room (table_short n t)
      ∷ check_day n d
      ∷ examine_column l t x n (finished_nodes l t x)
      ∷ examine_before (answer l t x)
      ∷ []

  unfoldable pub day_change : Result (Option ℤ) Refusal
  day_change =
      let l = levels n in
      answer_by Err (in_order day_checks) (change_of (answer l t (before d)) (answer l t (day n d)))

-- All days: every d with 24·d < n. [wish2 4]
abbrev pub days_of : ℕ → List ℕ
days_of n = keep (λ d. ltb (day_hours * d) n) (up_from 0 n)

-- Its change; a day with no reading adds nothing. [wish2 4]
abbrev pub added_by : Result (Option ℤ) Refusal → ℤ
added_by (Ok (Some grams)) = grams
added_by (Ok None) = pos 0
added_by (Err why) = pos 0

-- The last reading minus the first; 0, if there is none. [wish2 4]
abbrev pub span_of : Option Summary → ℤ
span_of None = pos 0
span_of (Some answer) = answer.last.grams -ℤ answer.first.grams
