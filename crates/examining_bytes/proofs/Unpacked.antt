-- Each coefficient that is read from its three bytes is the one that stands at its place in the table unpacked from
-- them. Assumes nothing.
use Rattle.kit.proofs.{◌≡◌, List, ℕ, ◌/◌, ◌<◌, pos, length, get_or}
use Rattle.laws.proofs.Lists.{map-up-length, map-up-from-0}
use Rattle.packing.specs.Packing.{coefficient_from, unpacked}

module _ (bs : List ℕ) where
  pub unpacked-length : length (unpacked bs) ≡ length bs / 3
  unfolding unpacked
  unpacked-length = map-up-length (coefficient_from bs) 0 (length bs / 3)

  pub unpacked-at : (p : ℕ) → p < length bs / 3 → get_or (unpacked bs) p (pos 0) ≡ coefficient_from bs p
  unfolding unpacked
  unpacked-at p h = map-up-from-0 (coefficient_from bs) (pos 0) (length bs / 3) p h

pub ruleset read = (unpacked-length, unpacked-at)
