-- Document 01, "The house record": numbers as bytes. Assumes nothing.
--
--   Bytes bs                     each number of a list is a byte
--   bytes_of w m, number_from bs   m in w bytes, big-endian; the number that bytes spell
--   InThree z                    z has room in three bytes
--   bits_of z, signed_of m         z in 24 bits, two's complement; the number that 24 bits are
--   three_bytes z, signed_from bs  z in three bytes, two's complement; the number that three bytes spell
--   bytes_at bs p w               the w bytes from place p on
use Rattle.std.specs.Prelude.{cond, List, [], ◌∷◌, ℕ, zero, suc, ◌+◌, ◌-◌, ◌*◌, ◌/◌, ◌%◌, ◌^◌, ◌<◌, ltb, ℤ, pos, negsuc}
use Rattle.std.specs.Prelude.{neg_ℤ, ◌-ℤ◌, ◌≤ℤ◌, length, get_or, take, drop}

-- A byte is a number from 0 to 255.
abbrev pub Bytes : List ℕ → Type 0
Bytes bs = (p : ℕ) → p < length bs → get_or bs p 0 < 256

-- Big-endian: the highest byte first. [record 1]
unfoldable pub bytes_of : (w m : ℕ) → List ℕ
bytes_of zero m = []
bytes_of (suc w) m = m / 256 ^ w % 256 ∷ bytes_of w m

unfoldable pub number_from : List ℕ → ℕ
number_from [] = 0
number_from (b ∷ bs) = b * 256 ^ length bs + number_from bs

-- Three bytes hold −8,388,608 to 8,388,607. [record 5]
abbrev pub InThree : ℤ → Type 0
InThree z = (neg_ℤ (pos (2 ^ 23)) ≤ℤ z) × (z ≤ℤ pos (2 ^ 23 - 1))

-- Two's complement of three bytes: a negative number stands as that number plus 2^24. [record 5]
abbrev pub bits_of : ℤ → ℕ
bits_of (pos m) = m
bits_of (negsuc m) = 2 ^ 24 - suc m

unfoldable pub signed_of : ℕ → ℤ
signed_of m = cond (ltb m (2 ^ 23)) (pos m) (pos m -ℤ pos (2 ^ 24))

abbrev pub three_bytes : ℤ → List ℕ
three_bytes z = bytes_of 3 (bits_of z)

abbrev pub signed_from : List ℕ → ℤ
signed_from bs = signed_of (number_from bs)

abbrev pub bytes_at : List ℕ → (p w : ℕ) → List ℕ
bytes_at bs p w = take w (drop p bs)
