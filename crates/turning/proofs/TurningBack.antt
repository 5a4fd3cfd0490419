-- Each answer of turning back: its checks in their order, and the hours of a sound table. Assumes nothing.
use Rattle.kit.proofs.{◌≡◌, sym, ◌∙◌, true, List, ◌++◌, ℕ, ◌-◌, ◌≤◌, arith, ℤ, pos, length, get_or, take, drop, Option}
use Rattle.kit.proofs.{Err, None, Ok, Result, Some, length-take-le}
use Rattle.words.specs.declared.{NodeId.NodeId, Range.Range, Refusal.Refusal}
use Rattle.words.specs.declared.Refusal.TheVariants as refusal
use Rattle.om3.specs.Document.{every, levels, P, root, lent, Check, passes, refuses, in_order, sound_root_values}
use Rattle.om3.specs.Document.{nodes_below, sound_table, sound_node, examine_table, turning_back_checks}
use Rattle.std.specs.Borrow.{Bor}
use Rattle.sizes.specs.declared.table.LentTable.{LentTable}
use Rattle.sizes.specs.Lent.{IsLent, Enough}
use Rattle.laws.proofs.{Making.good-some, Tests.and_right, Levels.n≤P, TurnedBack.turned-length, Examined.examine-sound}
use Rattle.node.proofs.Located.{root-located}
use Rattle.sizes.proofs.Lent.{lent-there}
use Rattle.sizes.proofs.TableChecks as checked
use Rattle.node.specs.Steps.{root_of}
use Rattle.examining.specs.Examining.{check_of}
use Rattle.turning.specs.Turning.{Written, TurnedBack}
use Rattle.examining.proofs.AtRoot.{root-unsound, root-reached}
use Rattle.examining.proofs.Told.{RefusedBy}
use Rattle.turning.proofs.AllWritten.{all-written}

pub enough : {n : ℕ} {cs : Bor (List ℤ)} {ks : Bor (List ℕ)} {t : LentTable} {size : ℕ} → IsLent n cs ks t → n ≤ size
    → Enough n cs.now ks.now size n
enough h room = record { table = lent-there h; buffer = room }

module _ (n : ℕ) (cs : List ℤ) (ks : List ℕ) (out : List ℤ) where
  abbrev checks : Check
  checks = in_order (turning_back_checks n (lent cs ks) (length out))

  -- A refusal leaves the hours as they were.
  pub refused : {why : Refusal} → checks ≡ refuses why → TurnedBack n cs ks out out (Err why)
  refused e = record { answer = rw e; hours = rw e }

  -- Only the table itself is still to examine.
  module _ (h : Enough n cs ks (length out) n) where
    examined : checks ≡ examine_table n (lent cs ks)
    examined = checked.decided n cs ks (length out) n h

    pub unsound-refused : (r : Result Unit NodeId) → check_of r ≡ examine_table n (lent cs ks) → (why : Refusal)
        → RefusedBy r why → TurnedBack n cs ks out out (Err why)
    unsound-refused (Ok u) e why told = absurd told
    unsound-refused (Err i) e why told = rw told (refused (examined ∙ sym e))

    module _ (r : Result Unit NodeId) (e : check_of r ≡ examine_table n (lent cs ks)) (g : r ≡ Ok tt) where
      abbrev taken : examine_table n (lent cs ks) ≡ passes
      taken = sym (rw g at e)

      nodes-sound : every (sound_node (levels n) n (lent cs ks)) (nodes_below (levels n - 0) root) ≡ true
      unfolding sound_table
      nodes-sound =
          let z : levels n - 0 ≡ levels n = omega arith in
          rw z
          (and_right (sound_root_values (get_or cs 0 (pos 0)) (get_or cs 1 (pos 0))) _
          ((examine-sound (levels n) n (lent cs ks)).0 taken))

      pub hours-written : (range : Option Range) → root_of (get_or cs 0 (pos 0)) (get_or cs 1 (pos 0)) ≡ Some range
          → (p : ℕ) → p ≡ P n → (hs : List ℤ) → Written cs ks 1 0 p range (take n out) hs
          → TurnedBack n cs ks out (hs ++ drop n out) (Ok tt)
      hours-written range q p pe hs W =
          let l = levels n in
          let z : l - 0 ≡ l = omega arith in
          let at = rw (← pe) at (root-located l) in
          let w = rw z at (W.below l n root at (root-reached n cs ks range q) nodes-sound) in
          let most = n≤P n (good-some n h.table.good).1 in
          let f = w ∙ all-written l (lent cs ks) n (take n out) most (length-take-le n out h.buffer) in
          record {
            answer = rw (examined ∙ taken);
            hours = rw (examined ∙ taken, turned-length l (lent cs ks) n, f);
          }

      pub root-not-unsound : root_of (get_or cs 0 (pos 0)) (get_or cs 1 (pos 0)) ≡ None → ⊥
      root-not-unsound q =
          let u : refuses (refusal.Unsound (record { 0 = 0 })) ≡ passes = root-unsound n cs ks q ∙ taken in
          let z : ◌≡◌ {A = ℕ} 0 1 = cc in
          omega arith
