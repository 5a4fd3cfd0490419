-- What packing promises: coefficients in three bytes each, as the record has them. Cited by the contracts of this crate
-- and of those that write and read records. Assumes nothing.
--
--   EachInThree cs        each coefficient of a list has room in three bytes
--   coefficient_from bs p  the coefficient at place p of packed coefficients
--   unpacked bs           all of them; one or two bytes at the end that make no coefficient are left out
use Rattle.std.specs.Prelude.{List, map, ℕ, ◌*◌, ◌/◌, ◌<◌, ℤ, pos, length, get_or}
use Rattle.om3.specs.Lists.{up_from}
use Rattle.om3.specs.Bytes.{InThree, bytes_at, signed_from}

abbrev pub EachInThree : List ℤ → Type 0
EachInThree cs = (p : ℕ) → p < length cs → InThree (get_or cs p (pos 0))

-- Three bytes for each coefficient, in order. [record 5]
abbrev pub coefficient_from : List ℕ → ℕ → ℤ
coefficient_from bs p = signed_from (bytes_at bs (3 * p) 3)

unfoldable pub unpacked : List ℕ → List ℤ
unpacked bs = map (coefficient_from bs) (up_from 0 (length bs / 3))
