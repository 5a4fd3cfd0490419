-- How many hours a node of level d covers: P divided by the nodes of that level. Assumes nothing.
use Rattle.kit.proofs.{◌≡◌, ap, ◌∙◌, ⊎_elim, ℕ, ◌+◌, ◌-◌, ◌/◌, ◌^◌, ◌≤◌, ◌<◌, mul-div_right, arith, pow_pos, pow_mono}
use Rattle.kit.proofs.{pow-lt, pow-add}
use Rattle.words.specs.{largest_level}
use Rattle.om3.specs.Document.{levels, P}
use Rattle.laws.proofs.{Tests.below_or_not, Levels.levels-most}

module _ (n d : ℕ) where
  pub over-all : largest_level < d → levels n < d
  over-all h = omega (arith, levels-most n)

  -- P is the nodes of the level times the hours of each.
  divided : d ≤ levels n → P n / 2 ^ d ≡ 2 ^ (levels n - d)
  divided h =
      let e : levels n ≡ d + (levels n - d) = omega arith in
      ap (λ (j : ℕ). 2 ^ j / 2 ^ d) e ∙ ap (λ (m : ℕ). m / 2 ^ d) (pow-add 2 d (levels n - d))
      ∙ mul-div_right (2 ^ (levels n - d)) (pow_pos d)

  -- p is P, and m is how many nodes the level has.
  module _ (p m : ℕ) (places : p ≡ P n) (nodes : m ≡ 2 ^ d) where
    -- More nodes than hours: the level is too deep.
    pub more-nodes : p < m → levels n < d
    more-nodes h = ⊎_elim (λ k. k) (λ k. absurd (omega (arith, pow_mono k))) (below_or_not (levels n) d)

    pub deep-enough : m ≤ p → d ≤ levels n
    deep-enough h = ⊎_elim (λ k. absurd (omega (arith, pow-lt k))) (λ k. k) (below_or_not (levels n) d)

    pub covered : m ≤ p → p / m ≡ 2 ^ (levels n - d)
    covered h = rw (places, nodes) (divided (deep-enough h))
