-- Sums, differences and negations of signed numbers, in their parts. Assumes nothing.
use Rattle.kit.proofs.{◌≡◌, refl, Bool, true, false, ℕ, zero, suc, ◌+◌, arith, ltb, ℤ, pos, negsuc, neg_ℤ, sub_ℕ, ◌+ℤ◌}
use Rattle.kit.proofs.{◌-ℤ◌, ltb-true, ltb-false}
use Rattle.signed.proofs.Parts.{up, dn, ≡-parts, parts-≡}

subℕ-parts : (a b : ℕ) → up (sub_ℕ a b) + b ≡ a + dn (sub_ℕ a b)
subℕ-parts a b = by (ltb a b) refl
  where
    by : (t : Bool) → ltb a b ≡ t → up (sub_ℕ a b) + b ≡ a + dn (sub_ℕ a b)
    by true e = rw e (omega (arith, ltb-true))
    by false e = rw e (omega (arith, ltb-false))

pub add_parts : (a b : ℤ) → up (a +ℤ b) + (dn a + dn b) ≡ (up a + up b) + dn (a +ℤ b)
add_parts (pos a) (pos b) = omega arith
add_parts (pos a) (negsuc b) = omega (arith, subℕ-parts a (suc b))
add_parts (negsuc a) (pos b) = omega (arith, subℕ-parts b (suc a))
add_parts (negsuc a) (negsuc b) = omega arith

neg-up : (a : ℤ) → up (neg_ℤ a) ≡ dn a
neg-up (pos zero) = refl
neg-up (pos (suc n)) = refl
neg-up (negsuc n) = refl

neg-dn : (a : ℤ) → dn (neg_ℤ a) ≡ up a
neg-dn (pos zero) = refl
neg-dn (pos (suc n)) = refl
neg-dn (negsuc n) = refl

pub sub_parts : (a b : ℤ) → up (a -ℤ b) + (dn a + up b) ≡ (up a + dn b) + dn (a -ℤ b)
sub_parts a b = omega (arith, add_parts a (neg_ℤ b), neg-up b, neg-dn b)

-- A hypothesis or a goal that a number is a sum or a difference.
pub ≡-add : (a b : ℤ) {z : ℤ} → z ≡ a +ℤ b → up z + (dn a + dn b) ≡ (up a + up b) + dn z
≡-add a b e = omega (arith, ≡-parts e, add_parts a b)

pub ≡-sub : (a b : ℤ) {z : ℤ} → z ≡ a -ℤ b → up z + (dn a + up b) ≡ (up a + dn b) + dn z
≡-sub a b e = omega (arith, ≡-parts e, sub_parts a b)

pub add-≡ : (a b : ℤ) {z : ℤ} → up z + (dn a + dn b) ≡ (up a + up b) + dn z → z ≡ a +ℤ b
add-≡ a b h = parts-≡ (omega (arith, add_parts a b))

pub sub-≡ : (a b : ℤ) {z : ℤ} → up z + (dn a + up b) ≡ (up a + dn b) + dn z → z ≡ a -ℤ b
sub-≡ a b h = parts-≡ (omega (arith, sub_parts a b))
