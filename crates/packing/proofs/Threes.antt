-- A coefficient in 24 bits, two's complement, as the code computes it: by its sign, with 2^24 added or taken away.
-- Assumes nothing.
use Rattle.kit.proofs.{◌≡◌, refl, sym, ◌∙◌, true, false, ℕ, ◌^◌, ◌≤◌, ◌<◌, ℤ, pos, negsuc, nat_abs, ◌+ℤ◌, ◌-ℤ◌, lt_z}
use Rattle.kit.proofs.{le-ltb, arith, w32, SFits, of_z, to_z, to_z-of_z, to_z_pos}
use Rattle.signed.proofs.{add_parts, nat_abs-parts, signed}
use Rattle.om3.specs.Document.{InThree, bits_of, signed_of}
use Rattle.laws.proofs.ThreeBytes.{signed_low}

pub bits_below : (z : ℤ) → InThree z → lt_z z (pos 0) ≡ true → nat_abs (z +ℤ pos (2 ^ 24)) ≡ bits_of z
bits_below (pos m) h e = absurd (omega signed)
bits_below (negsuc m) h e =
    omega (signed, add_parts (negsuc m) (pos (2 ^ 24)), nat_abs-parts (negsuc m +ℤ pos (2 ^ 24)))

pub bits_above : (z : ℤ) → lt_z z (pos 0) ≡ false → nat_abs z ≡ bits_of z
bits_above (pos m) e = refl
bits_above (negsuc m) e = absurd (omega signed)

pub signed_above : (x : ℕ) → 2 ^ 23 ≤ x → pos x -ℤ pos (2 ^ 24) ≡ signed_of x
unfolding signed_of
signed_above x h = rw (le-ltb x (2 ^ 23) h)

-- As the machine has them: 24 bits below half a turn, and those from there on.
pub signed_kept : (x : ℕ) → x < 2 ^ 23 → to_z w32 x ≡ signed_of x
signed_kept x h = to_z_pos w32 (omega arith) ∙ sym (signed_low x h)

pub signed_turned : (x : ℕ) → 2 ^ 23 ≤ x → x < 2 ^ 24
    → to_z w32 (of_z w32 (to_z w32 x -ℤ pos (2 ^ 24))) ≡ signed_of x
signed_turned x h below =
    let e = to_z_pos w32 {n = x} (omega arith) in
    let fits : SFits w32 (pos x -ℤ pos (2 ^ 24)) = omega signed in
    rw (e, to_z-of_z fits) (signed_above x h)
