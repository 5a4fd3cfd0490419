-- P is the smallest power of two that is at least n and at least 2, and l is from 1 to the largest level. Assumes
-- nothing.
use Rattle.kit.proofs.{◌≡◌, ap, ◌∙◌, ⊎_elim, ℕ, zero, suc, ◌+◌, ◌-◌, ◌*◌, ◌/◌, ◌^◌, ◌≤◌, two-pow-succ, arith, leb}
use Rattle.kit.proofs.{pow_mono, leb-true, le-leb}
use Rattle.words.specs.{largest_level, largest_hours}
use Rattle.om3.specs.Document.{levels, P}
use Rattle.laws.proofs.Tests.{below_or_not}
use Rattle.laws.proofs.Lists.{first-from, first-upto, first_passes, first-least}

module _ (n : ℕ) where
  pub levels-some : 1 ≤ levels n
  unfolding levels
  levels-some = first-from (λ j. leb n (2 ^ j)) 1 (largest_level - 1)

  pub levels-most : levels n ≤ largest_level
  unfolding levels
  levels-most = first-upto (λ j. leb n (2 ^ j)) 1 (largest_level - 1)

  pub n≤P : n ≤ largest_hours → n ≤ P n
  unfolding levels
  n≤P h = leb-true n _ (first_passes (λ j. leb n (2 ^ j)) 1 (largest_level - 1) (le-leb n largest_hours h))

  pub 2≤P : 2 ≤ P n
  2≤P = pow_mono levels-some

  pub P-most : P n ≤ largest_hours
  P-most = pow_mono levels-most

  pub levels-least : (j : ℕ) → 1 ≤ j → n ≤ 2 ^ j → levels n ≤ j
  unfolding levels
  levels-least j a h =
      ⊎_elim (λ b. omega (arith, levels-most))
      (λ b. first-least (λ j. leb n (2 ^ j)) 1 (largest_level - 1) j a b (le-leb n (2 ^ j) h))
      (below_or_not largest_level j)

  -- No power of two that is at least n and at least 2 is smaller. [hours 4]
  pub P-smallest : (j : ℕ) → n ≤ 2 ^ j → 2 ≤ 2 ^ j → P n ≤ 2 ^ j
  P-smallest zero h two = absurd (omega arith)
  P-smallest (suc j) h two = pow_mono (levels-least (suc j) (omega arith) h)

-- P/2 of l levels.
pub half_pow : (l : ℕ) → 1 ≤ l → 2 ^ l / 2 ≡ 2 ^ (l - 1)
half_pow l o =
    let e : l ≡ suc (l - 1) = omega arith in
    ap (λ (k : ℕ). 2 ^ k / 2) e ∙ ap (λ (x : ℕ). x / 2) (two-pow-succ (l - 1)) ∙ omega arith

-- P is even.
pub P-even : (n : ℕ) → P n ≡ 2 * (P n / 2)
P-even n =
    let o = levels-some n in
    let e : levels n ≡ suc (levels n - 1) = omega arith in
    let d : P n ≡ 2 ^ (levels n - 1) + 2 ^ (levels n - 1) = ap (λ (j : ℕ). 2 ^ j) e ∙ two-pow-succ (levels n - 1) in
    omega arith
