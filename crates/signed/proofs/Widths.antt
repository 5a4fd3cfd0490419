-- What fits a signed machine integer, and what the machine reads back from its bits. Assumes nothing.
use Rattle.kit.proofs.{◌≡◌, sym, ap, ◌∙◌, Bool, suc, ◌+◌, ◌-◌, ◌≤◌, ◌<◌, ◌^◌, arith, T, ℤ, pos, negsuc, nat_abs, ◌+ℤ◌}
use Rattle.kit.proofs.{◌-ℤ◌, mag, non_neg, Width, w32, Fits, SFits, to_z, of_z, bits, hbits, to_z-of_z}
use Rattle.signed.proofs.{Sums.add_parts, Sums.sub_parts}
use Rattle.signed.proofs.Parts.{up, dn, ≡-parts}

pub parts-sfits : {w : Width} {z : ℤ} → (up z - dn z) + (dn z - suc (up z)) < 2 ^ hbits w → SFits w z
parts-sfits {w} {z = pos n} h = record { sfits = omega arith }
parts-sfits {w} {z = negsuc n} h = record { sfits = omega arith }

pub sfits-parts : {w : Width} {z : ℤ} → SFits w z → (up z < 2 ^ hbits w + dn z) × (dn z ≤ 2 ^ hbits w + up z)
sfits-parts {w} {z = pos n} h = omega (arith, h.sfits)
sfits-parts {w} {z = negsuc n} h = omega (arith, h.sfits)

pub sfits-add : {w : Width} (a b : ℤ)
    → (up a + up b - (dn a + dn b)) + (dn a + dn b - suc (up a + up b)) < 2 ^ hbits w → SFits w (a +ℤ b)
sfits-add a b h = parts-sfits (omega (arith, add_parts a b))

pub sfits-sub : {w : Width} (a b : ℤ)
    → (up a + dn b - (dn a + up b)) + (dn a + up b - suc (up a + dn b)) < 2 ^ hbits w → SFits w (a -ℤ b)
sfits-sub a b h = parts-sfits (omega (arith, sub_parts a b))

pub back : {w : Width} {z : ℤ} → SFits w z → up (to_z w (of_z w z)) + dn z ≡ up z + dn (to_z w (of_z w z))
back h = ≡-parts (to_z-of_z h)

pub back-add : {w : Width} (a b : ℤ) → SFits w (a +ℤ b)
    → up (to_z w (of_z w (a +ℤ b))) + (dn a + dn b) ≡ (up a + up b) + dn (to_z w (of_z w (a +ℤ b)))
back-add a b h = omega (arith, ≡-parts (to_z-of_z h), add_parts a b)

pub back-sub : {w : Width} (a b : ℤ) → SFits w (a -ℤ b)
    → up (to_z w (of_z w (a -ℤ b))) + (dn a + up b) ≡ (up a + dn b) + dn (to_z w (of_z w (a -ℤ b)))
back-sub a b h = omega (arith, ≡-parts (to_z-of_z h), sub_parts a b)

-- The same from the bare bound, as a field, an element or a call's result has it.
pub reads-back : (z : ℤ) → mag z < 2 ^ 31 → to_z w32 (of_z w32 z) ≡ z
reads-back z h = to_z-of_z {w = w32} (record { sfits = h })

-- A number that is handed to a function is read back from its bits: what the function tested of it holds of it.
pub told : (test : ℤ → Bool) (z : ℤ) → SFits w32 z → {r b : Bool} → r ≡ test (to_z w32 (of_z w32 z)) → r ≡ b
    → test z ≡ b
told test z f e h = sym (ap test (to_z-of_z f)) ∙ sym e ∙ h

-- A cast to an unsigned type: the number is not negative, and its magnitude fits.
pub parts-non_neg : (z : ℤ) → dn z ≤ up z → T (non_neg z)
parts-non_neg (pos n) h = tt
parts-non_neg (negsuc n) h = absurd (omega arith)

pub nat_abs-parts : (z : ℤ) → nat_abs z ≡ (up z - dn z) + (dn z - up z)
nat_abs-parts (pos n) = omega arith
nat_abs-parts (negsuc n) = omega arith

pub fits_nat_abs : {w : Width} (z : ℤ) → (up z - dn z) + (dn z - up z) < 2 ^ bits w → Fits w (nat_abs z)
fits_nat_abs z h = record { fits = omega (arith, nat_abs-parts z) }
