-- Where a window, a column and a day are in order and some series has the table, the checks before 4 pass, since such a
-- table is long enough. Assumes nothing.
use Rattle.kit.proofs.{◌≡◌, ap, ◌∙◌, false, not, ◌&&◌, ◌||◌, List, ◌∷◌, ℕ, ◌*◌, ◌/◌, ◌≤◌, ◌<◌, arith, leb, ltb, eqb, ℤ}
use Rattle.kit.proofs.{length, lt-ltb, le-ltb, le-leb, lt-leb, ne_eqb}
use Rattle.words.specs.{most_columns, day_hours}
use Rattle.om3.specs.Document.{Series, levels, P, Table, coefficient, code_of_place, HasTable, Check, passes, in_order}
use Rattle.om3.specs.Document.{check_hours, check_room, table_short, check_window, check_column, check_day, Drawn}
use Rattle.laws.proofs.{Lists.map-up-length, Lists.take-room, Taken.good-hours}

-- A table that some series has is long enough.
pub has_room : (n : ℕ) (s : List ℤ) (t : Table) → HasTable n s t → table_short n t ≡ false
has_room n s t has =
    let l = levels n in
    let p = ap length has.coefficients ∙ map-up-length (coefficient l n s) 0 (P n) in
    let q = ap length has.codes ∙ map-up-length (code_of_place l n s) 0 (P n / 2) in
    rw (le-ltb _ _ (take-room (P n) t.coefficients p), le-ltb _ _ (take-room (P n / 2) t.codes q))

window-passes : (n a b : ℕ) → a < b → b ≤ n → not (ltb a b && leb b n) ≡ false
window-passes n a b p q = rw (lt-ltb a b p, le-leb b n q)

column-passes : (w k : ℕ) → 1 ≤ w → w ≤ most_columns → k < w → (eqb w 0 || ltb most_columns w || leb w k) ≡ false
column-passes w k p q r = rw (ne_eqb w 0 (λ z. absurd (omega (arith, z))), le-ltb most_columns w q, lt-leb w k r)

module _ (n : ℕ) (s : List ℤ) (t : Table) (series : Series n s) (has : HasTable n s t) where
  -- Checks 1, 3, 5 and 6 of a column pass, so the others decide.
  pub columns-pass : (a b w k : ℕ) → Drawn n a b w k → (rest : List Check) → in_order rest ≡ passes
      → in_order (check_hours n ∷ check_room (table_short n t) ∷ check_window n a b ∷ check_column w k ∷ rest) ≡ passes
  unfolding in_order
  columns-pass a b w k c rest e =
      let p = window-passes n a b c.ordered c.ends in
      let q = column-passes w k c.some c.most c.below in
      rw (good-hours n series.some series.most, has_room n s t has, p, q) e

  -- So do checks 1, 3 and 5 of a day.
  pub day-passes : (d : ℕ) → day_hours * d < n → (rest : List Check) → in_order rest ≡ passes
      → in_order (check_hours n ∷ check_room (table_short n t) ∷ check_day n d ∷ rest) ≡ passes
  unfolding in_order
  day-passes d h rest e =
      rw (good-hours n series.some series.most, has_room n s t has, lt-leb n (day_hours * d) h) e
