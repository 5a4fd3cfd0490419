-- Each coefficient of a sound table has room in three bytes: it is a root value, a detail of two ranges of readings, or
-- a mark, and the largest of these is the mark of a gap. Assumes nothing.
use Rattle.kit.proofs.{◌≡◌, true, ℕ, zero, suc, ◌^◌, ◌≤◌, ◌<◌, arith, ℤ, pos, neg_ℤ, ◌-ℤ◌, ◌≤ℤ◌, get_or, None, Option}
use Rattle.kit.proofs.{Some}
use Rattle.signed.proofs.{sub_parts, signed}
use Rattle.words.specs.{largest_detail, low_of, high_of, Readings}
use Rattle.words.specs.declared.{Range.Range}
use Rattle.om3.specs.Document.{Table, low_detail, high_detail, left_half, right_half, root_range, coefficient_at}
use Rattle.om3.specs.Document.{sound_table, InThree}
use Rattle.laws.proofs.Nodes.{detail-places}
use Rattle.laws.proofs.SoundDetails.{RootValues, root-values, Details}
use Rattle.laws.proofs.SoundTables.{root-sound, node-details, readings-reached}

detail-three : (z : ℤ) → neg_ℤ (pos largest_detail) ≤ℤ z → z ≤ℤ pos largest_detail → InThree z
detail-three z a b = (omega signed, omega signed)

-- The low and the high of a range of readings, and the details of two such ranges.
ends-three : (r : Option Range) → Readings r → InThree (low_of r) × InThree (high_of r)
ends-three None p = ((omega signed, omega signed), (omega signed, omega signed))
ends-three (Some r) p =
    (detail-three r.low (omega signed) (omega signed), detail-three r.high (omega signed) (omega signed))

details-three : (r s : Option Range) → Readings r → Readings s → InThree (low_detail r s) × InThree (high_detail r s)
details-three None None p q = ((omega signed, omega signed), (omega signed, omega signed))
details-three None (Some r) p q = ((omega signed, omega signed), (omega signed, omega signed))
details-three (Some r) None p q = ((omega signed, omega signed), (omega signed, omega signed))
details-three (Some r) (Some u) p q = (
  detail-three (r.low -ℤ u.low) (omega (signed, sub_parts r.low u.low)) (omega (signed, sub_parts r.low u.low)),
  detail-three (r.high -ℤ u.high) (omega (signed, sub_parts r.high u.high)) (omega (signed, sub_parts r.high u.high)),
)

-- So root values and details that are sound.
roots-three : (a b : ℤ) → RootValues a b → InThree a × InThree b
roots-three a b w = rw (w.low, w.high) at (ends-three (root_range a b) w.readings)

sound-details-three : (r : Option Range) (d e : ℤ) → Details r d e → InThree d × InThree e
sound-details-three r d e w =
    rw (w.low, w.high) at
    (details-three (left_half r d e) (right_half r d e) w.halves.readings-left w.halves.readings-right)

module _ (l n : ℕ) (t : Table) (some : 1 ≤ l) (ok : sound_table l n t ≡ true) where
  roots : RootValues (coefficient_at t 0) (coefficient_at t 1)
  roots = root-values (coefficient_at t 0) (coefficient_at t 1) (root-sound l n t ok)

  -- Places from 2 on hold the details of nodes that are not pairs.
  from-2-three : (p : ℕ) → 2 ≤ p → p < 2 ^ l → InThree (coefficient_at t p)
  from-2-three =
      detail-places l (λ p. InThree (coefficient_at t p)) some
      (λ v i h. sound-details-three _ _ _ (node-details l n t ok v i (readings-reached l n t ok v i) h))

  pub sound-threes : (p : ℕ) → p < 2 ^ l → InThree (get_or t.coefficients p (pos 0))
  sound-threes zero b = (roots-three _ _ roots).0
  sound-threes (suc zero) b = (roots-three _ _ roots).1
  sound-threes (suc (suc p)) b = from-2-three (suc (suc p)) (omega arith) b
