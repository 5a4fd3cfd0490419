-- Each answer of the calls: the refusal of the check that decides, or the column's own answer. Assumes nothing.
use Rattle.kit.proofs.{◌≡◌, List, [], ◌∷◌, ℕ, ℤ, Err, Ok, Result}
use Rattle.words.specs.declared.{Column.Column, Finished.Finished, Refusal.Refusal, Stopped.Stopped}
use Rattle.om3.specs.Document.{levels, Table, lent, Check, passes, refuses, in_order, answer_by, check_depth, column}
use Rattle.om3.specs.Document.{opened_nodes, examine_column, stopped, finished_nodes, finished}
use Rattle.laws.proofs.Examined.{then-passes}
use Rattle.columns.specs.Drawing.{StoppedAt, FinishedOver}
use Rattle.sizes.specs.Lent.{lent_check}
use Rattle.sizes.proofs.Lent.{lent-refuses}
use Rattle.windows.specs.Windows.{window_check}
use Rattle.windows.proofs.Windows.{edges-passed}
use Rattle.columns.proofs.Checking as checking

module _ (n : ℕ) (cs : List ℤ) (ks : List ℕ) (a b w k : ℕ) where
  abbrev l : ℕ
  l = levels n

  abbrev T : Table
  T = lent cs ks

  abbrev told : Result Column Refusal
  told = answer_by Err (window_check n a b w k) (Ok (column a b w k))

  -- A finished column.
  abbrev four : Check
  four = examine_column l T (column a b w k) n (finished_nodes l T (column a b w k))

  pub finished-lent : (why : Refusal) → lent_check n T ≡ refuses why → Err why ≡ finished n T a b w k
  unfolding finished
  finished-lent why e = rw (lent-refuses n T _ why e)

  module _ (lends : lent_check n T ≡ passes) where
    pub finished-window : (why : Refusal) → Err why ≡ told → Err why ≡ finished n T a b w k
    unfolding finished
    finished-window why tells = rw (checking.window-refused n T a b w k (four ∷ []) lends why tells)

    pub finished-column : (x : Column) → Ok x ≡ told → {r : Result Finished Refusal}
        → FinishedOver n cs ks x r → r ≡ finished n T a b w k
    unfolding finished in_order
    finished-column x tells F =
        let h = edges-passed (window_check n a b w k) (column a b w k) x tells in
        rw (checking.window-passed n T a b w k (four ∷ []) lends h.0, then-passes four) (rw h.1 at F.answer)

  -- A column stopped at depth d.
  module _ (d : ℕ) where
    abbrev examined : Check
    examined = examine_column l T (column a b w k) n (opened_nodes l T (column a b w k) d)

    pub stopped-lent : (why : Refusal) → lent_check n T ≡ refuses why → Err why ≡ stopped n T a b w k d
    unfolding stopped
    stopped-lent why e = rw (lent-refuses n T _ why e)

    module _ (lends : lent_check n T ≡ passes) where
      pub stopped-window : (why : Refusal) → Err why ≡ told → Err why ≡ stopped n T a b w k d
      unfolding stopped
      stopped-window why tells =
          rw (checking.window-refused n T a b w k (check_depth n d ∷ examined ∷ []) lends why tells)

      pub stopped-column : (x : Column) → Ok x ≡ told → {r : Result Stopped Refusal}
          → StoppedAt n cs ks x d r → r ≡ stopped n T a b w k d
      unfolding stopped
      stopped-column x tells S =
          let h = edges-passed (window_check n a b w k) (column a b w k) x tells in
          rw (checking.window-passed n T a b w k (check_depth n d ∷ examined ∷ []) lends h.0)
          (rw h.1 at S.answer)
