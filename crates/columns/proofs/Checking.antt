-- The checks of the column calls, in the parts in which the code makes them: 1 and 3, then 5 and 6. Assumes nothing.
use Rattle.kit.proofs.{◌≡◌, ◌∙◌, List, [], ◌∷◌, ℕ, Err}
use Rattle.words.specs.declared.{Refusal.Refusal}
use Rattle.om3.specs.Document.{Table, Check, passes, refuses, and_then, in_order, check_hours, check_room, table_short}
use Rattle.om3.specs.Document.{check_window, check_column, column}
use Rattle.laws.proofs.Examined.{in-order-append}
use Rattle.sizes.specs.Lent.{lent_check}
use Rattle.sizes.proofs.Lent.{lent-passes}
use Rattle.windows.specs.Windows.{window_check}
use Rattle.windows.proofs.Windows.{told, edges-refused}

-- Checks 1 and 3 have passed: 5 and 6 refuse, or the rest decides.
module _ (n : ℕ) (t : Table) (a b w k : ℕ) (rest : List Check) (lends : lent_check n t ≡ passes) where
  abbrev whole : Check
  whole =
      in_order (check_hours n ∷ check_room (table_short n t) ∷ check_window n a b ∷ check_column w k ∷ rest)

  windowed : whole ≡ and_then (window_check n a b w k) (in_order rest)
  windowed = lent-passes n t _ lends ∙ in-order-append (check_window n a b ∷ check_column w k ∷ []) rest

  pub window-refused : (why : Refusal) → Err why ≡ told n a b w k → whole ≡ refuses why
  window-refused why e = windowed ∙ rw (edges-refused (window_check n a b w k) (column a b w k) why e)

  pub window-passed : window_check n a b w k ≡ passes → whole ≡ in_order rest
  window-passed e = windowed ∙ rw e
