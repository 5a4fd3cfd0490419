-- What a number is, once it was handed to a function and read back from its bits. Assumes nothing.
use Rattle.kit.proofs.{ℤ, w32, to_z, of_z}

abbrev pub back : ℤ → ℤ
back z = to_z w32 (of_z w32 z)
