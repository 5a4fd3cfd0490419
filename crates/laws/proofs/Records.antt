-- What the bytes of a written record state: its fields and its table are read back as they were written. A field stands
-- where the bytes before it end; the header has seven bytes and each coefficient three. Assumes nothing.
use Rattle.kit.proofs.{◌≡◌, refl, sym, ap, ◌∙◌, false, List, [], ◌∷◌, ◌++◌, map, flat_map, ℕ, zero, suc, ◌+◌, ◌*◌, ◌/◌}
use Rattle.kit.proofs.{◌≤◌, ◌<◌, arith, ℤ, pos, length, get_or, take, drop, length-append, length-take-le, get_or-take}
use Rattle.kit.proofs.{drop_at, drop-drop, take_all}
use Rattle.words.specs.{largest_hours, version}
use Rattle.om3.specs.Document.{up_from, P, Table, table_short, Bytes, bytes_of, InThree, three_bytes, signed_from}
use Rattle.om3.specs.Document.{bytes_at, record_length, record_size, record_of, header_of, header_size, length_in}
use Rattle.om3.specs.Document.{version_in, hours_in, coefficient_in, table_in}
use Rattle.laws.proofs.{Lists.take-made, Levels.P-most, Lent.coefficients-there, Lent.codes-there}
use Rattle.laws.proofs.{ThreeBytes.three_back, ThreeBytes.threes-size}
use Rattle.laws.proofs.Bytes.{bytes-length, bytes_back, bytes_take, bytes-append, bytes-are}

pub header-size : (stated n : ℕ) → length (header_of stated n) ≡ header_size
header-size stated n =
    omega (
      arith,
      length-append (bytes_of 4 stated ++ bytes_of 1 version) (bytes_of 2 n),
      length-append (bytes_of 4 stated) (bytes_of 1 version),
      bytes-length 4 stated,
      bytes-length 1 version,
      bytes-length 2 n,
    )

-- The bytes of signed numbers, three of each one: those of number p stand from place 3p on.
threes-at : (zs : List ℤ) (rest : List ℕ) (p : ℕ) → p < length zs
    → take 3 (drop (3 * p) (flat_map three_bytes zs ++ rest)) ≡ three_bytes (get_or zs p (pos 0))
unfolding flat_map bytes_of
threes-at [] rest p h = absurd (omega arith)
threes-at (z ∷ zs) rest zero h = refl
threes-at (z ∷ zs) rest (suc p) h =
    let e : 3 * suc p ≡ suc (suc (suc (3 * p))) = omega arith in
    rw e (threes-at zs rest p (omega arith))

threes-are : (zs : List ℤ) → Bytes (flat_map three_bytes zs)
unfolding flat_map
threes-are [] = λ p h. absurd (omega arith)
threes-are (z ∷ zs) = bytes-append (three_bytes z) (flat_map three_bytes zs) (bytes-are 3 _) (threes-are zs)

module _ (n : ℕ) (t : Table) where
  abbrev r : List ℕ
  r = record_of n t

  -- The header, and what follows it.
  pub record-length-in : length_in r ≡ record_length n
  unfolding record_of bytes_of
  record-length-in = bytes_back 4 (record_length n) (omega (arith, P-most n))

  pub record-version-in : version_in r ≡ version
  unfolding record_of bytes_of
  record-version-in = bytes_back 1 version (omega arith)

  pub record-hours-in : n ≤ largest_hours → hours_in r ≡ n
  unfolding record_of bytes_of
  record-hours-in most = bytes_back 2 n (omega arith)

  record-after : drop header_size r ≡ flat_map three_bytes (take (P n) t.coefficients) ++ take (P n / 2) t.codes
  unfolding record_of bytes_of
  record-after = refl

  -- Codes that are bytes make a record of bytes.
  pub record-range : Bytes t.codes → Bytes r
  unfolding record_of
  record-range h =
      let A = bytes_of 4 (record_length n) in
      let B = bytes_of 1 version in
      let C = bytes_of 2 n in
      let D = flat_map three_bytes (take (P n) t.coefficients) in
      bytes-append (A ++ B ++ C ++ D) (take (P n / 2) t.codes)
      (bytes-append (A ++ B ++ C) D
      (bytes-append (A ++ B) C (bytes-append A B (bytes-are 4 _) (bytes-are 1 _)) (bytes-are 2 n))
      (threes-are (take (P n) t.coefficients)))
      (bytes_take (P n / 2) t.codes h)

  -- The table, of which the record holds P coefficients and P/2 codes.
  module _ (room : table_short n t ≡ false) where
    taken-length : length (take (P n) t.coefficients) ≡ P n
    taken-length = length-take-le (P n) t.coefficients (coefficients-there n t room)

    -- Its length field, and so its size, is that of n. [record 2, 7]
    pub record-size : length r ≡ record_size n
    unfolding record_of
    record-size =
        let header = header_of (record_length n) n in
        let coefficients = flat_map three_bytes (take (P n) t.coefficients) in
        let codes = take (P n / 2) t.codes in
        omega (
          arith,
          length-append (header ++ coefficients) codes,
          length-append header coefficients,
          header-size (record_length n) n,
          threes-size (take (P n) t.coefficients),
          taken-length,
          length-take-le (P n / 2) t.codes (codes-there n t room),
        )

    record-threes : (p : ℕ) → p < P n
        → bytes_at r (header_size + 3 * p) 3 ≡ three_bytes (get_or t.coefficients p (pos 0))
    record-threes p h =
        rw (← drop-drop (3 * p) header_size r, record-after)
        (threes-at (take (P n) t.coefficients) (take (P n / 2) t.codes) p (omega (arith, taken-length))
        ∙ ap three_bytes (get_or-take (P n) t.coefficients p (pos 0) h))

    record-codes : bytes_at r (header_size + 3 * P n) (P n / 2) ≡ take (P n / 2) t.codes
    record-codes =
        let D = flat_map three_bytes (take (P n) t.coefficients) in
        let E = take (P n / 2) t.codes in
        let size : length D ≡ 3 * P n = omega (arith, threes-size (take (P n) t.coefficients), taken-length) in
        let fits = length-take-le (P n / 2) t.codes (codes-there n t room) in
        rw (← drop-drop (3 * P n) header_size r, record-after, drop_at D E (3 * P n) size)
        (take_all (P n / 2) E (omega arith))

    -- Coefficients that have room in three bytes are read back.
    module _ (small : (p : ℕ) → p < P n → InThree (get_or t.coefficients p (pos 0))) where
      record-coefficient-in : (p : ℕ) → p < P n → coefficient_in r p ≡ get_or t.coefficients p (pos 0)
      record-coefficient-in p h = ap signed_from (record-threes p h) ∙ three_back _ (small p h)

      record-coefficients : map (coefficient_in r) (up_from 0 (P n)) ≡ take (P n) t.coefficients
      record-coefficients =
          sym (take-made (coefficient_in r) (pos 0) (P n) t.coefficients (coefficients-there n t room)
          (λ p h. sym (record-coefficient-in p h)))

      pub record-table-in : n ≤ largest_hours
          → table_in r ≡ record { coefficients = take (P n) t.coefficients; codes = take (P n / 2) t.codes }
      unfolding table_in
      record-table-in most =
          rw (record-hours-in most)
          (λ i. record { coefficients = record-coefficients i; codes = record-codes i })
