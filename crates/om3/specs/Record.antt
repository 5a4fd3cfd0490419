-- Document 01, "The house record": its fields, byte by byte. Assumes nothing.
--
--   length_for places                the length field of a record of so many coefficients
--   record_length n, record_size n    the length field for n hours; how many bytes the whole record has
--   header_of stated n, header_size   the fields before the coefficients, the first stating so many bytes; their size
--   record_of n t                    the record of a table
--   HasRecord n s r                 a series of n hours has the record r
--   length_in, version_in, hours_in    what the fields of a record state
--   coefficient_in r p, table_in r    the coefficient at place p, and the whole table, that the bytes r state
use Rattle.std.specs.Prelude.{◌≡◌, ℕ, ◌+◌, ◌*◌, ◌/◌, ℤ, take}
use mathlib.Core.List.{List, ◌++◌, map, flat_map}
use Rattle.words.specs.Constants.{version}
use Rattle.om3.specs.Lists.{up_from}
use Rattle.om3.specs.Series.{levels, P}
use Rattle.om3.specs.Table.{Table, table_of}
use Rattle.om3.specs.Bytes.{bytes_of, number_from, three_bytes, signed_from, bytes_at}

-- The length of what follows the length field: 3 + 3P + P/2. [record 2]
abbrev pub length_for : (places : ℕ) → ℕ
length_for places = 3 + 3 * places + places / 2

abbrev pub record_length : ℕ → ℕ
record_length n = length_for (P n)

abbrev pub record_size : ℕ → ℕ
record_size n = 4 + record_length n

-- Before the coefficients: four bytes of length, one of version, two of n. [record 2, 3, 4]
abbrev pub header_of : (stated n : ℕ) → List ℕ
header_of stated n = bytes_of 4 stated ++ bytes_of 1 version ++ bytes_of 2 n

abbrev pub header_size : ℕ
header_size = 4 + 1 + 2

-- Then the coefficients, and the codes directly after the last. [record 5, 6]
unfoldable pub record_of : ℕ → Table → List ℕ
record_of n t =
    header_of (record_length n) n
    ++ flat_map three_bytes (take (P n) t.coefficients) ++ take (P n / 2) t.codes

-- A series of n hours has the record of its table. [record 2, 3, 4, 5, 6]
abbrev pub HasRecord : ℕ → List ℤ → List ℕ → Type 0
HasRecord n s r = r ≡ record_of n (table_of (levels n) n s)

-- What the fields state: the length, the version, n. [record 2, 3, 4]
abbrev pub length_in : List ℕ → ℕ
length_in r = number_from (bytes_at r 0 4)

abbrev pub version_in : List ℕ → ℕ
version_in r = number_from (bytes_at r 4 1)

abbrev pub hours_in : List ℕ → ℕ
hours_in r = number_from (bytes_at r 5 2)

-- The coefficient at place p, straight from the bytes. [record 5] [level 3]
abbrev pub coefficient_in : List ℕ → ℕ → ℤ
coefficient_in r p = signed_from (bytes_at r (header_size + 3 * p) 3)

-- The whole table. [record 5, 6]
unfoldable pub table_in : List ℕ → Table
table_in r = record {
  coefficients = map (coefficient_in r) (up_from 0 (P (hours_in r)));
  codes = bytes_at r (header_size + 3 * P (hours_in r)) (P (hours_in r) / 2);
}
