-- P is the least power of two that is at least n and at least 2. Assumes nothing.
use Rattle.kit.proofs.{◌≡◌, ap, ◌∙◌, ⊎_elim, ℕ, ◌-◌, ◌/◌, ◌^◌, ◌≤◌, ◌<◌, max, two-pow-succ, le_antisymm, arith}
use Rattle.kit.proofs.{pow_mono}
use Rattle.std.specs.Int.{IsPowerOfTwo}
use lib.Count.{count_leading_zeros, leading_length}
use Rattle.words.specs.{largest_hours}
use Rattle.om3.specs.Document.{levels, P}
use Rattle.laws.proofs.{Tests.below_or_not}
use Rattle.laws.proofs.Levels.{levels-least, n≤P, 2≤P}

-- The power of two that is at least n and 2, and half of which is not.
module _ (n : ℕ) (most : n ≤ largest_hours) where
  module _ (m : ℕ) (enough : max n 2 ≤ 2 ^ m) (half : 2 ^ m / 2 < max 1 (max n 2)) where
    exponent-some : 1 ≤ m
    exponent-some =
        ⊎_elim (λ h. absurd (omega (arith, pow_mono h, two-pow-succ m))) (λ h. h) (below_or_not m 1)

    exponent-upto : m ≤ levels n
    exponent-upto =
        ⊎_elim (λ h. absurd (omega (arith, pow_mono h, two-pow-succ (levels n), n≤P n most, 2≤P n)))
        (λ h. h)
        (below_or_not (levels n) m)

    exponent-is : m ≡ levels n
    exponent-is = le_antisymm exponent-upto (levels-least n m exponent-some (omega arith))

  pub next-power : (p : ℕ) → IsPowerOfTwo p → max n 2 ≤ p → p / 2 < max 1 (max n 2) → p ≡ P n
  next-power p power enough half =
      let is = power.1 in
      is ∙ ap (λ (j : ℕ). 2 ^ j) (exponent-is power.0 (rw is at enough) (rw is at half))

-- Of more than two hours: where 64 bits hold n − 1, all but its leading zeros are l.
module _ (n : ℕ) (more : 2 < n) (most : n ≤ largest_hours) where
  pub bits-levels : n - 1 < 2 ^ 64 → 64 - count_leading_zeros 64 (n - 1) ≡ levels n
  bits-levels fits =
      let bits = leading_length 64 (n - 1) fits in
      let is = exponent-is n most bits.0 (omega (arith, bits.2)) (omega (arith, bits.3)) in
      omega (arith, bits.1)
