-- An edge rounds up as its definition does, and what the answer of checks 5 and 6 says of them. Assumes nothing.
--
--   told n a b w k   what checks 5 and 6 answer, with the hours of column k where both pass
use Rattle.kit.proofs.{◌≡◌, refl, Bool, true, false, not, ◌&&◌, ◌||◌, ℕ, ◌+◌, ◌≤◌, ◌<◌, arith, leb, ltb, eqb, leb-true}
use Rattle.kit.proofs.{leb-false, ltb-true, ltb-false, not-false, Err, Ok, Result}
use Rattle.std.proofs.lemmas.Grind.{common_steps}
use Rattle.std.specs.Int.{div_ceil}
use Rattle.words.specs.{largest_hours, most_columns}
use Rattle.words.specs.declared.{Refusal.Refusal, Refusal.TheVariants.BadHours, Column.Column}
use Rattle.om3.specs.Document.{bad_hours, Check, passes, refuses, in_order, answer_by, column, edges_checks}
use Rattle.om3.specs.Columns.{ceil}
use Rattle.laws.proofs.Tests.{and_left, and_right, neither}
use Rattle.windows.specs.Windows.{Edged, window_check}

pub rounded_up : (m w : ℕ) → 0 < w → div_ceil m w ≡ ceil m w
rounded_up m w some = grind (arith, common_steps)

-- Where checks 5 and 6 pass, the numbers of both edges of the column are small enough to compute with.
module _ (n a b w k : ℕ) where
  abbrev outside : Bool
  outside = not (ltb a b && leb b n)

  abbrev none : Bool
  none = eqb w 0 || ltb most_columns w || leb w k

  module _ (e : outside ≡ false) (f : none ≡ false) where
    window : (ltb a b && leb b n) ≡ true
    window = not-false (ltb a b && leb b n) e

    pub edged : n ≤ largest_hours → Edged a b w k × Edged a b w (k + 1)
    edged most =
        let p : a < b = ltb-true a b (and_left (ltb a b) (leb b n) window) in
        let q : b ≤ n = leb-true b n (and_right (ltb a b) (leb b n) window) in
        let g = neither (eqb w 0 || ltb most_columns w) (leb w k) f in
        let u : w ≤ most_columns = ltb-false most_columns w (neither (eqb w 0) (ltb most_columns w) g.0).1 in
        let v : k < w = leb-false w k g.1 in (
          record { ordered = omega arith; hours = omega arith; some = omega arith; most = u; among = omega arith },
          record { ordered = omega arith; hours = omega arith; some = omega arith; most = u; among = omega arith },
        )

abbrev pub told : (n a b w k : ℕ) → Result Column Refusal
told n a b w k = answer_by Err (window_check n a b w k) (Ok (column a b w k))

pub edges-refused : (c : Check) (x : Column) (why : Refusal)
    → Err why ≡ answer_by Err c (Ok x) → c ≡ refuses why
edges-refused passes x why e = cc
edges-refused (refuses r) x why e = cc

pub edges-passed : (c : Check) (x y : Column) → Ok y ≡ answer_by Err c (Ok x)
    → (c ≡ passes) × (y ≡ x)
edges-passed passes x y e = (refl, cc)
edges-passed (refuses r) x y e = cc

-- The edges alone have no check 3.
pub edges-hours : (n a b w k : ℕ) → bad_hours n ≡ true → in_order (edges_checks n a b w k) ≡ refuses BadHours
unfolding in_order
edges-hours n a b w k bad = rw bad

pub edges-parted : (n a b w k : ℕ) → bad_hours n ≡ false → in_order (edges_checks n a b w k) ≡ window_check n a b w k
unfolding in_order
edges-parted n a b w k good = rw good
