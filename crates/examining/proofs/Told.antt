-- What callers of an examination rest on: it is of the table that was lent, and its error becomes refusal 4. Assumes
-- nothing.
use Rattle.kit.proofs.{◌≡◌, List, ℕ, ℤ, Result, Ok, Err}
use Rattle.std.specs.Borrow.{Bor}
use Rattle.words.specs.declared.{NodeId.NodeId, Refusal.Refusal}
use Rattle.words.specs.declared.Refusal.TheVariants as refusal
use Rattle.om3.specs.Document.{lent, Check, refuses, examine_table}
use Rattle.sizes.specs.declared.table.LentTable.{LentTable}
use Rattle.sizes.specs.Lent.{IsLent}
use Rattle.examining.specs.Examining.{check_of}

-- What is told of an unsound node: the refusal that names it.
abbrev pub RefusedBy : Result Unit NodeId → Refusal → Type 0
RefusedBy (Ok u) why = ⊥
RefusedBy (Err i) why = why ≡ refusal.Unsound i

pub refused-by : (r : Result Unit NodeId) {why : Refusal} → RefusedBy r why → check_of r ≡ refuses why
refused-by (Ok u) told = absurd told
refused-by (Err i) told = rw told

-- What is examined is the table that was lent.
pub examined-lent : {n : ℕ} {cs : Bor (List ℤ)} {ks : Bor (List ℕ)} {t : LentTable} {c : Check} → IsLent n cs ks t
    → c ≡ examine_table t.table.n (lent t.table.coefficients.now t.table.codes.now)
    → c ≡ examine_table n (lent cs.now ks.now)
examined-lent h e = rw (h.hours, h.coefficients, h.codes) at e
