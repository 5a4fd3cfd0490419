-- The columns of a text that is taken: its hours are a series, and the table that they are drawn from is that series'
-- own. So each printed line is of an answer, which is what a look through the column's hours gives. Assumes nothing.
use Rattle.kit.proofs.{◌≡◌, refl, true, not, ◌&&◌, ◌||◌, List, [], ◌∷◌, map, ℕ, zero, suc, ◌+◌, ◌≤◌, ◌<◌, arith, leb}
use Rattle.kit.proofs.{ltb, eqb, ℤ, length, get_or, length-map, ltb-true, ltb-false, leb-true, not-false}
use Rattle.words.specs.Said.{finished_as}
use Rattle.words.specs.{most_columns, gap, declared.HourLine.HourLine}
use Rattle.words.specs.declared.Refusal.TheVariants.{BadReading, BadWindow, BadColumn}
use Rattle.om3.specs.Document.{is_reading, is_gap, Series, levels, hour, table_of, passes, in_order, check_hours}
use Rattle.om3.specs.Document.{check_window, check_column, column, column_hours, count, finished, look_through, Drawn}
use Rattle.om3.specs.Document.{grams_of, check_lines, check_number, check_numbers, printing_checks}
use Rattle.laws.proofs.{Making.hours-some, Demand2.made-has, Demand3.finished-drawn}
use Rattle.laws.proofs.Tests.{and_left, and_right, neither}
use Rattle.laws.proofs.Examined.{then-first, then-second, refuse-not, order-parts}

-- An hour whose line passes check 2 holds a reading or a gap.
number-holds : (h : ℕ) (line : HourLine) → check_number h line ≡ passes
    → (is_reading (grams_of line) || is_gap (grams_of line)) ≡ true
number-holds h HourLine.Gap e = refl
number-holds h HourLine.Bad e = refl
number-holds h (HourLine.Grams z) e =
    rw (not-false (is_reading z) (refuse-not (not (is_reading z)) (BadReading (hour h)) e))

numbers-hold : (h : ℕ) (lines : List HourLine) → check_numbers h lines ≡ passes → (k : ℕ) → k < length lines
    → (let z = get_or (map grams_of lines) k gap in is_reading z || is_gap z) ≡ true
unfolding check_numbers
numbers-hold h [] e k b = absurd (omega arith)
numbers-hold h (line ∷ lines) e zero b = number-holds h line (then-first (check_number h line) _ e)
numbers-hold h (line ∷ lines) e (suc k) b =
    numbers-hold (h + 1) lines (then-second (check_number h line) _ e) k (omega arith)

-- Checks 5 and 6 pass.
module _ (n a b w : ℕ) (e : in_order (check_window n a b ∷ check_column w 0 ∷ []) ≡ passes) where
  pub few-columns : w ≤ most_columns
  few-columns =
      let column = (order-parts (check_column w 0) [] (order-parts (check_window n a b) _ e).1).0 in
      let most = (neither (eqb w 0 || ltb most_columns w) (leb w 0) (refuse-not _ BadColumn column)).0 in
      ltb-false most_columns w (neither (eqb w 0) (ltb most_columns w) most).1

  pub window-drawn : (k : ℕ) → k < w → Drawn n a b w k
  window-drawn k below =
      let passed = (order-parts (check_window n a b) _ e).0 in
      let window = not-false (ltb a b && leb b n) (refuse-not _ BadWindow passed) in
      record {
        ordered = ltb-true a b (and_left (ltb a b) (leb b n) window);
        ends = leb-true b n (and_right (ltb a b) (leb b n) window);
        some = omega arith;
        most = few-columns;
        below = below;
      }

module _ (a b w : ℕ) (lines : List HourLine) (ok : in_order (printing_checks a b w lines) ≡ passes) where
  abbrev n : ℕ
  n = length lines

  abbrev s : List ℤ
  s = map grams_of lines

  -- Its checks, one after the other: 12, 1, 2, 5 and 6 pass.
  record Passed : Type 0 where
    hours : check_hours n ≡ passes
    numbers : check_numbers 0 lines ≡ passes
    window : in_order (check_window n a b ∷ check_column w 0 ∷ []) ≡ passes

  passed : Passed
  passed =
      let d = order-parts (check_hours n) _ (order-parts (check_lines 2 lines) _ ok).1 in
      let e = order-parts (check_numbers 0 lines) _ d.1 in
      record { hours = d.0; numbers = e.0; window = e.1 }

  pub text-series : Series n s
  text-series =
      let some = hours-some n passed.hours in
      record {
        some = some.0;
        most = some.1;
        size = length-map lines grams_of;
        holds = numbers-hold 0 lines passed.numbers;
      }

  -- Each column that is printed is answered.
  pub columns-answered : (k : ℕ) → k < w
      → (let t = table_of (levels n) n s in
      let x = column a b w k in
      finished n t a b w k ≡ finished_as (look_through n s (column_hours x)) (count (levels n) t x))
  columns-answered k h =
      finished-drawn n s (table_of (levels n) n s) text-series (made-has n s) a b w k
      (window-drawn n a b w passed.window k h)
