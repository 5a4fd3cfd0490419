-- What is proved of the requests of document 02, of the calls of the boundary as they are shipped: ..Promises, in
-- sagivelume/proofs/Clauses, is what the contract of a call promises. A call has lifetimes κs, its arguments, an answer
-- r and its parameters e as it leaves them; `now` is what a lent buffer holds. Assumes nothing.
use Rattle.kit.proofs.{◌≡◌, refl, false, ◌||◌, List, map, flatten, ℕ, ◌-◌, ◌*◌, ◌^◌, ◌<◌, ℤ, pos, neg_ℤ, ◌≤ℤ◌, SFits}
use Rattle.kit.proofs.{w32, length, take, Option}
use Rattle.words.specs.declared.{Summary.Summary, Timestamp.Timestamp, Column.Column}
use Rattle.words.specs.Said.{finished_as}
use denote.Ref.{Bor}
use Rattle.kit.specs.Calls.{third, fourth, fifth}
use Rattle.words.specs.{day_hours, largest_reading}
use Rattle.om3.specs.Document.{total, Series, hours_from, bad_hours, short, HasTable, lent, table_short, filled}
use Rattle.om3.specs.Document.{column_hours, day, before, change_of, days_of, added_by, span_of, look_through, TrueLog}
use Rattle.om3.specs.Document.{true_series}
use Rattle.columns.specs.Drawing.{FinishedOver}
use Rattle.days.proofs as days
use Rattle.told.specs.Columns.{change_told}
use Rattle.sagivelume.proofs.Clauses as boundary
use Rattle.theorems.specs.Rebuilder.{Rebuilds}
use Rattle.theorems.proofs as theorems

-- Wish 1, logs of the old scales.
module _ (κs : _) (n : _) (counts : _) (flags : _) (start : _) (hours : _) (r : _) (e : _)
    (done : boundary.RebuildPromises κs n counts flags start hours r e) where
  -- The renter's law: with room lent, a log of true weights is taken, and these weights are written at the recorded
  -- hours and a gap at every other, the rest of the buffer as it was.
  rebuild-true : (weight : Timestamp → ℤ) → TrueLog n counts.now flags.now start weight → bad_hours n ≡ false
      → (short (length counts.now) n || (short (length flags.now) n || short (length hours.now) n)) ≡ false
      → (r.number ≡ 0) × ((fifth e).now ≡ filled (true_series n flags.now weight) hours.now)
  rebuild-true = theorems.Rebuilt.true-told n counts.now flags.now start hours.now (fifth e).now r done

  -- What is rebuilt is a series ..
  rebuild-series : r.number ≡ 0 → Series n (take n (fifth e).now)
  rebuild-series = theorems.Rebuilt.series-told n counts.now flags.now start hours.now (fifth e).now r done

  -- .. so that making, with room lent, takes it.
  make-after-rebuild : r.number ≡ 0 → (κs' : _) (readings : _) (coefficients : _) (codes : _) (r' : _) (e' : _)
      → boundary.MakePromises κs' n readings coefficients codes r' e' → readings.now ≡ (fifth e).now
      → table_short n (lent coefficients.now codes.now) ≡ false → r'.number ≡ 0
  make-after-rebuild zero κs' readings coefficients codes r' e' made same room =
      (theorems.Boundary.make-exactly n readings.now _ _ _ _ r' made room).1 (rw same (rebuild-series zero))

-- The old log reader's calls, by their contracts, print what is defined for the text, however it is cut into pieces, if
-- it has fewer than 2^64 − 1 bytes.
rebuilder : (pieces : List (List ℕ)) → length (flatten pieces) < 2 ^ 64 - 1 → Rebuilds pieces
rebuilder = theorems.Rebuilder.rebuilds-pieces

-- Wish 2, days that add up. The series s of n hours has the table in the two lent buffers.
module _ (n : ℕ) (s : List ℤ) (coefficients : Bor (List ℤ)) (codes : Bor (List ℕ)) (series : Series n s)
    (has : HasTable n s (lent coefficients.now codes.now)) where
  module _ (d : ℕ) (there : day_hours * d < n) (κs : _) (r : _) (e : _)
      (told : boundary.DayChangePromises κs n coefficients codes d r e) where
    -- The change of a day is by a look through the hours before it and a look through its own, ..
    day-change : r ≡ change_told
        (change_of (look_through n s (column_hours (before d))) (look_through n s (column_hours (day n d))))
    day-change = theorems.Days.change-told n s _ _ series has d there r told

    -- .. and is from −2,000,000 to 2,000,000.
    day-change-within : (neg_ℤ (pos (2 * largest_reading)) ≤ℤ r.grams) × (r.grams ≤ℤ pos (2 * largest_reading))
    day-change-within = theorems.Days.change-within n s _ _ series has d there r told

  -- What is told of all days adds up to the last reading of the series minus its first, both found by a look through
  -- the series itself; to 0, if it has none.
  days-add-up : (κs : ℕ → _) (r : ℕ → _) (e : ℕ → _)
      → ((d : ℕ) → day_hours * d < n → boundary.DayChangePromises (κs d) n coefficients codes d (r d) (e d))
      → total (map (λ d. (r d).grams) (days_of n)) ≡ span_of (look_through n s (hours_from 0 n))
  days-add-up κs r e = theorems.Days.changes-add-up n s _ _ series has r

-- So it is after making, whenever the buffers that it left are lent: of the readings that were made into the table.
module _ (κs : _) (n : _) (readings : _) (coefficients : _) (codes : _) (m : _) (e : _)
    (made : boundary.MakePromises κs n readings coefficients codes m e) (zero : m.number ≡ 0) where
  days-after-make : (coefficients' : Bor (List ℤ)) (codes' : Bor (List ℕ))
      → coefficients'.now ≡ (third e).now → codes'.now ≡ (fourth e).now
      → (κs' : ℕ → _) (r : ℕ → _) (e' : ℕ → _)
      → ((d : ℕ) → day_hours * d < n → boundary.DayChangePromises (κs' d) n coefficients' codes' d (r d) (e' d))
      → total (map (λ d. (r d).grams) (days_of n)) ≡ span_of (look_through n (take n readings.now) (hours_from 0 n))
  days-after-make coefficients' codes' same-coefficients same_codes κs' r e' =
      let again = theorems.Boundary.made_again n readings.now _ _ _ _ m made zero _ _ same-coefficients same_codes in
      days-add-up n _ coefficients' codes' again.0 again.1 κs' r e'

-- On any table, sound or not: what finished columns answer of the hours before a day and of the day differs by a number
-- of 32 bits.
change-fits : (n : ℕ) (cs : List ℤ) (ks : List ℕ) (x y : Column) (earlier own : Option Summary) (i j : ℕ)
    → FinishedOver n cs ks x (finished_as earlier i) → FinishedOver n cs ks y (finished_as own j)
    → SFits w32 (added_by (change_of earlier own))
change-fits n cs ks x y earlier own i j before after =
    days.Daily.change-small earlier own (before.answers.small _ _ refl) (after.answers.small _ _ refl)
