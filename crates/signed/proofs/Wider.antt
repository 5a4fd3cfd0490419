-- A number of 32 bits is the same in 64. Assumes nothing.
use Rattle.kit.proofs.{ℤ, w32, w64, SFits, to_z, of_z}
use Rattle.signed.proofs.{Widths.back, Widths.sfits-parts, Rules.signed}

pub wider : (x : ℤ) → SFits w32 x → SFits w64 (to_z w32 (of_z w32 x))
wider x h = omega (signed, back h, sfits-parts h)
