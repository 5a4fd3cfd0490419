-- Node 0 and node 1: the range that the root values give, and the examination of a whole table from there.
-- Assumes nothing.
use Rattle.kit.proofs.{◌≡◌, refl, sym, ◌∙◌, List, ℕ, ◌-◌, ◌*◌, ◌/◌, ◌^◌, ◌≤◌, ◌<◌, arith, ℤ, pos, length, get_or}
use Rattle.kit.proofs.{mag, w32}
use Rattle.kit.proofs.{Err, None, Option, Result, Some, to_z, of_z}
use Rattle.words.specs.declared.NodeId.{NodeId}
use Rattle.signed.proofs.{reads-back}
use Rattle.words.specs.declared.Range.{Range}
use Rattle.words.specs.{Readings}
use Rattle.om3.specs.Document.{levels, P, root, Table, lent, root_range, reached_at, reached, in_order}
use Rattle.om3.specs.Document.{sound_root_values, examine, examine_table}
use Rattle.laws.proofs.{Levels.P-even, SoundDetails.root-values}
use Rattle.node.proofs.Located.{root-located}
use Rattle.node.specs.Steps.{root_of}
use Rattle.examining.specs.Examining.{check_of, Examined}
use Rattle.examining.proofs.Answers.{Rooted, rooted, not-rooted}

-- The root values, as handed to the step at node 1: it reads them back from their bits.
module _ (cs : List ℤ) where
  pub root-told : {x y : ℤ} → x ≡ get_or cs 0 (pos 0) → y ≡ get_or cs 1 (pos 0) → mag x < 2 ^ 31 → mag y < 2 ^ 31
      → {r z : Option (Option Range)} → r ≡ root_of (to_z w32 (of_z w32 x)) (to_z w32 (of_z w32 y)) → r ≡ z
      → root_of (get_or cs 0 (pos 0)) (get_or cs 1 (pos 0)) ≡ z
  root-told {x} {y} p q xm ym e g = rw (← p, ← q) (sym (rw (reads-back x xm, reads-back y ym) at e) ∙ g)

  pub root-read : mag (get_or cs 0 (pos 0)) < 2 ^ 31 → mag (get_or cs 1 (pos 0)) < 2 ^ 31
      → {r z : Option (Option Range)}
      → r ≡ root_of (to_z w32 (of_z w32 (get_or cs 0 (pos 0)))) (to_z w32 (of_z w32 (get_or cs 1 (pos 0)))) → r ≡ z
      → root_of (get_or cs 0 (pos 0)) (get_or cs 1 (pos 0)) ≡ z
  root-read xm ym = root-told refl refl xm ym

  pub root-readings : {r : Option Range} → root_of (get_or cs 0 (pos 0)) (get_or cs 1 (pos 0)) ≡ Some r → Readings r
  root-readings h =
      let a = get_or cs 0 (pos 0) in
      let b = get_or cs 1 (pos 0) in
      let s = rooted (sound_root_values a b) (root_range a b) h in
      rw s.range (root-values a b s.is_sound).readings

-- Two halves of P make P.
pub root-hours : (n : ℕ) (ks : List ℕ) (p : ℕ) → p ≡ P n → p / 2 ≤ length ks → p ≤ 2 * length ks
root-hours n ks p pe h = omega (arith, P-even n)

module _ (n : ℕ) (cs : List ℤ) (ks : List ℕ) where
  abbrev l : ℕ
  l = levels n

  abbrev T : Table
  T = lent cs ks

  abbrev a : ℤ
  a = get_or cs 0 (pos 0)

  abbrev b : ℤ
  b = get_or cs 1 (pos 0)

  pub root-unsound : root_of a b ≡ None → check_of (Err (record { 0 = 0 })) ≡ examine_table n T
  unfolding examine in_order
  root-unsound h = rw (not-rooted (sound_root_values a b) (root_range a b) h)

  module _ (range : Option Range) (h : root_of a b ≡ Some range) where
    abbrev H : Rooted (sound_root_values a b) (root_range a b) range
    H = rooted (sound_root_values a b) (root_range a b) h

    pub root-reached : range ≡ reached l T root
    unfolding reached_at
    root-reached = H.range

    abbrev all-levels : l - 0 ≡ l
    all-levels = omega arith

    pub root-examined : (p : ℕ) → p ≡ P n → (r : Result Unit NodeId) → Examined n cs ks (record { 0 = 1 }) 0 p range r
        → check_of r ≡ examine_table n T
    unfolding examine in_order
    root-examined p e r E =
        rw H.is_sound (rw all-levels at (E.below l root (rw e (root-located l)) root-reached))
