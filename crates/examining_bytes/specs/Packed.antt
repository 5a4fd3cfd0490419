-- What examining a table in its bytes asks. Cited by the contracts of this crate and of reading. Assumes nothing.
--
--   PackedTable n p bs qs   p is P for n hours, and bs and qs are the bytes of p coefficients and p/2 codes
use Rattle.std.specs.Prelude.{◌≡◌, List, ℕ, ◌*◌, ◌/◌, length}
use Rattle.om3.specs.Series.{P}

-- The parts of an opened record. [record 5, 6]
pub record PackedTable (n p : ℕ) (bs qs : List ℕ) : Type 0 where
  pub places : p ≡ P n
  pub coefficients : length bs ≡ 3 * p
  pub codes : length qs ≡ p / 2
