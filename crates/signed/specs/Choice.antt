-- Tests of equality of signed numbers, as definitions use them. Assumes nothing.
--
--   eq_z a b        whether a and b are the same number
--   is_number k z   whether z is the natural number k
use Rattle.std.specs.Prelude.{Bool, false, ◌&&◌, ℕ, eqb, ℤ, pos, negsuc}
use Rattle.std.specs.Int.Signed.{le_z}

-- Whether two numbers are the same: each is at most the other.
abbrev pub eq_z : ℤ → ℤ → Bool
eq_z a b = le_z a b && le_z b a

-- Whether a number is the natural number k.
abbrev pub is_number : ℕ → ℤ → Bool
is_number k (pos n) = eqb n k
is_number k (negsuc n) = false
