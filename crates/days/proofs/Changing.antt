-- The checks of the day change, in the parts in which the code makes them, and each of its answers. Assumes nothing.
use Rattle.kit.proofs.{◌≡◌, refl, sym, ◌∙◌, List, [], ◌∷◌, ℕ, ◌*◌, ◌≤◌, ◌<◌, ℤ, Err, Option, Result, le-leb, lt-leb}
use Rattle.words.specs.declared.Summary.{Summary}
use Rattle.words.specs.Said.{finished_as}
use Rattle.words.specs.{day_hours, declared.Refusal.TheVariants.BadWindow}
use Rattle.words.specs.declared.{Column.Column, Refusal.Refusal}
use Rattle.om3.specs.Document.{levels, Table, lent, Check, passes, refuses, and_then, in_order, answer_by, check_hours}
use Rattle.om3.specs.Document.{check_room, table_short, check_day, examine_column, answer, finished_nodes, day}
use Rattle.om3.specs.Document.{examine_before, day_change}
use Rattle.laws.proofs.Examined.{then-passes}
use Rattle.sizes.specs.Lent.{lent_check}
use Rattle.sizes.proofs.Lent.{lent-refuses, lent-passes}
use Rattle.columns.specs.Drawing.{finished_answer, FinishedOver}
use Rattle.columns.proofs.Finishing.{answer_same, not-answered}
use Rattle.days.specs.Given.{ChangeGiven}

-- Checks 1 and 3 have passed: 5 refuses, or the two examinations decide.
module _ (n : ℕ) (t : Table) (d : ℕ) (four then : Check) (lends : lent_check n t ≡ passes) where
  abbrev day-whole : Check
  day-whole = in_order (check_hours n ∷ check_room (table_short n t) ∷ check_day n d ∷ four ∷ then ∷ [])

  day-parted : day-whole ≡ and_then (check_day n d) (and_then four then)
  unfolding in_order
  day-parted = lent-passes n t (check_day n d ∷ four ∷ then ∷ []) lends ∙ rw (then-passes then)

  checks-late : n ≤ day_hours * d → day-whole ≡ refuses BadWindow
  checks-late h = day-parted ∙ rw (le-leb n (day_hours * d) h)

  checks-there : day_hours * d < n → day-whole ≡ and_then four then
  checks-there h = day-parted ∙ rw (lt-leb n (day_hours * d) h)

-- What the answer of a finished column says of its checks.
module _ (n : ℕ) (t : Table) (x : Column) where
  refused-by : (c : Check) (why : Refusal) → Err why ≡ answer_by Err c (finished_answer n t x)
      → c ≡ refuses why
  refused-by passes why g = absurd (not-answered g)
  refused-by (refuses r) why g = cc

  answered-by : (c : Check) (a : Option Summary) (m : ℕ)
      → finished_as a m ≡ answer_by Err c (finished_answer n t x)
      → (c ≡ passes) × (a ≡ answer (levels n) t x)
  answered-by passes a m g = (refl, answer_same g)
  answered-by (refuses r) a m g = absurd (not-answered (sym g))

module _ (n : ℕ) (cs : List ℤ) (ks : List ℕ) (d : ℕ) where
  abbrev table : Table
  table = lent cs ks

  abbrev examined : Column → Check
  examined x = examine_column (levels n) table x n (finished_nodes (levels n) table x)

  -- The change of a day.
  pub day-lent : (why : Refusal) → lent_check n table ≡ refuses why → Err why ≡ day_change n table d
  unfolding day_change
  day-lent why e = rw (lent-refuses n table _ why e)

  module _ (lends : lent_check n table ≡ passes) where
    abbrev then : Check
    then = examine_before n table d (answer (levels n) table (day n d))

    pub day-late : n ≤ day_hours * d → Err BadWindow ≡ day_change n table d
    unfolding day_change
    day-late h = rw (checks-late n table d (examined (day n d)) then lends h)

    module _ (there : day_hours * d < n) (x : Column) (e : x ≡ day n d) where
      pub day-refused : (why : Refusal) → FinishedOver n cs ks x (Err why)
          → Err why ≡ day_change n table d
      unfolding day_change
      day-refused why F =
          rw (
            checks-there n table d (examined (day n d)) then lends there,
            refused-by n table (day n d) (examined (day n d)) why (rw e at F.answer),
          )

      pub day-answered : (own : Option Summary) (m : ℕ) → FinishedOver n cs ks x (finished_as own m)
          → (r : Result (Option ℤ) Refusal) → ChangeGiven n cs ks d own r → r ≡ day_change n table d
      unfolding day_change
      day-answered own m F r given =
          let g = answered-by n table (day n d) (examined (day n d)) own m (rw e at F.answer) in
          rw (checks-there n table d (examined (day n d)) then lends there, g.0) (rw g.1 at given.answer)
