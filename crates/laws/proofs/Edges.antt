-- The columns of a window begin at its first hour, end at its end, and each begins where the one before it ends.
-- Assumes nothing.
use Rattle.kit.proofs.{◌≡◌, ℕ, ◌+◌, ◌-◌, ◌*◌, ◌/◌, ◌≤◌, zero-mul, div-eq_of_lt, mul-add-div, mul-le-mul_right}
use Rattle.kit.proofs.{le-div_iff_mul-le, div-mul-le_self, le_trans, arith}
use Rattle.om3.specs.Document.{edge}

module _ (a b w : ℕ) (some : 1 ≤ w) where
  short : (w - 1) / w ≡ 0
  short = div-eq_of_lt (omega arith)

  pub edge-first : (edge a b w 0).0 ≡ a
  edge-first =
      let z : 0 * (b - a) ≡ 0 = zero-mul (b - a) in
      let y : 0 + (w - 1) ≡ w - 1 = omega arith in
      rw (z, y, short) (omega arith)

  pub edge-last : a ≤ b → (edge a b w w).0 ≡ b
  edge-last h = rw (mul-add-div some (b - a) (w - 1), short) (omega arith)

  div_mono : (x y : ℕ) → x ≤ y → x / w ≤ y / w
  div_mono x y h = (le-div_iff_mul-le some).1 (le_trans (div-mul-le_self x w) h)

  pub edge-mono : (k m : ℕ) → k ≤ m → (edge a b w k).0 ≤ (edge a b w m).0
  edge-mono k m h =
      let p : k * (b - a) ≤ m * (b - a) = mul-le-mul_right (b - a) h in
      omega (arith, div_mono (k * (b - a) + (w - 1)) (m * (b - a) + (w - 1)) (omega arith))
