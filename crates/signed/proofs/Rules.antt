-- `omega signed` closes orders, equations, sums, differences, least, greatest and widths of signed numbers. A sum, a
-- difference or a choice that stands inside another term is handed over: `omega (signed, sub-parts a b, min-parts a
-- b)`. Specific rules stand first, since `omega` applies the first that fits a hypothesis. Assumes nothing.
use native.Mathlib.Omega.{arith}
use Rattle.signed.proofs.Parts.{≡-parts, parts-≡, le_z-true, le_z-false, true-le_z, false-le_z, lt_z-true, lt_z-false}
use Rattle.signed.proofs.Parts.{true-lt_z, false-lt_z, ≤-parts, parts-≤, <-parts, parts-<}
use Rattle.signed.proofs.Sums.{≡-sub, ≡-add, sub-≡, add-≡}
use Rattle.signed.proofs.Widths.{sfits-sub, sfits-add, parts-sfits, back-sub, back-add, back, parts-non_neg}
use Rattle.signed.proofs.Widths.{fits_nat_abs}
use Rattle.signed.proofs.Choices.{≡-min, ≡-max, min-≡, max-≡, true-eq_z}

pub ruleset signed = (
  arith,
  ≡-sub,
  ≡-add,
  ≡-min,
  ≡-max,
  ≡-parts,
  sub-≡,
  add-≡,
  min-≡,
  max-≡,
  parts-≡,
  le_z-true,
  le_z-false,
  lt_z-true,
  lt_z-false,
  true-le_z,
  false-le_z,
  true-lt_z,
  false-lt_z,
  true-eq_z,
  ≤-parts,
  parts-≤,
  <-parts,
  parts-<,
  sfits-sub,
  sfits-add,
  parts-sfits,
  back-sub,
  back-add,
  back,
  parts-non_neg,
  fits_nat_abs,
)
