-- Bytes that opening takes are the record of the table that they state: one table has one record. They are read as five
-- parts, of which each is what writing puts there. Assumes nothing.
use Rattle.kit.proofs.{◌≡◌, refl, sym, ap, ap₂, ◌∙◌, List, ◌++◌, map, flat_map, ℕ, zero, suc, ◌+◌, ◌*◌, ◌/◌, ◌≤◌, arith}
use Rattle.kit.proofs.{length, take, drop, length-drop, length-take-le, take-add, take_all, drop-drop}
use Rattle.words.specs.{version}
use Rattle.om3.specs.Document.{up_from, P, passes, in_order, Bytes, bytes_of, number_from, three_bytes, bytes_at}
use Rattle.om3.specs.Document.{record_length, record_of, header_size, hours_in, coefficient_in, table_in}
use Rattle.om3.specs.Document.{opening_checks, Openable}
use Rattle.laws.proofs.{Lists.map-up-length, ThreeBytes.three-forth, RecordsOpened.opens-formed}
use Rattle.laws.proofs.Bytes.{bytes_take, bytes_drop, bytes-forth}

-- Two parts of a list that meet are one part.
parts_meet : (r : List ℕ) (p w v : ℕ) → bytes_at r p w ++ bytes_at r (p + w) v ≡ bytes_at r p (w + v)
parts_meet r p w v = rw (← drop-drop w p r) (sym (take-add w v (drop p r)))

-- A part that lies within the list has its length, and is one of bytes.
pub part_length : (r : List ℕ) (p w : ℕ) → p + w ≤ length r → length (bytes_at r p w) ≡ w
part_length r p w h = length-take-le w (drop p r) (omega (arith, length-drop p r))

part_bytes : (r : List ℕ) → Bytes r → (p w : ℕ) → Bytes (bytes_at r p w)
part_bytes r bytes p w = bytes_take w (drop p r) (bytes_drop p r bytes)

module _ (r : List ℕ) (bytes : Bytes r) where
  -- A number read from w bytes is written in them again.
  field-again : (p w : ℕ) → p + w ≤ length r → bytes_of w (number_from (bytes_at r p w)) ≡ bytes_at r p w
  field-again p w h =
      ap (λ (v : ℕ). bytes_of v (number_from (bytes_at r p w))) (sym (part_length r p w h))
      ∙ bytes-forth (bytes_at r p w) (part_bytes r bytes p w)

  -- So are the coefficients of places f up to, not including, f + c.
  threes-again : (f c : ℕ) → header_size + 3 * (f + c) ≤ length r
      → flat_map three_bytes (map (coefficient_in r) (up_from f c)) ≡ bytes_at r (header_size + 3 * f) (3 * c)
  unfolding flat_map up_from
  threes-again f zero h = refl
  threes-again f (suc c) h =
      let p = header_size + 3 * f in
      let e : header_size + 3 * (f + 1) ≡ p + 3 = omega arith in
      let d : 3 + 3 * c ≡ 3 * suc c = omega arith in
      let first = three-forth (bytes_at r p 3) (part_bytes r bytes p 3) (part_length r p 3 (omega arith)) in
      rw (first, threes-again (f + 1) c (omega arith), e, ← d) (parts_meet r p 3 (3 * c))

  -- The five parts, from the places where they start.
  module _ (w : Openable r) where
    abbrev n : ℕ
    n = hours_in r

    length-again : bytes_of 4 (record_length n) ≡ take 4 r
    length-again = ap (bytes_of 4) (sym w.stated) ∙ field-again 0 4 (omega (arith, w.sized))

    version-again : bytes_of 1 version ≡ bytes_at r 4 1
    version-again = ap (bytes_of 1) (sym w.versioned) ∙ field-again 4 1 (omega (arith, w.sized))

    hours-again : bytes_of 2 n ≡ bytes_at r 5 2
    hours-again = field-again 5 2 (omega (arith, w.sized))

    coefficients-again : flat_map three_bytes (take (P n) (table_in r).coefficients) ≡ bytes_at r header_size (3 * P n)
    unfolding table_in
    coefficients-again =
        ap (flat_map three_bytes) (take_all (P n) _ (omega (arith, map-up-length (coefficient_in r) 0 (P n))))
        ∙ threes-again 0 (P n) (omega (arith, w.sized))

    codes-again : take (P n / 2) (table_in r).codes ≡ bytes_at r (header_size + 3 * P n) (P n / 2)
    unfolding table_in
    codes-again =
        let p = header_size + 3 * P n in
        take_all (P n / 2) (bytes_at r p (P n / 2)) (omega (arith, part_length r p (P n / 2) (omega (arith, w.sized))))

    formed-again : record_of n (table_in r) ≡ r
    unfolding record_of
    formed-again =
        rw (
          length-again,
          version-again,
          hours-again,
          coefficients-again,
          codes-again,
          ← take-add 4 1 r,
          ← take-add 5 2 r,
          ← take-add header_size (3 * P n) r,
          ← take-add (header_size + 3 * P n) (P n / 2) r,
        )
        (take_all (header_size + 3 * P n + P n / 2) r (omega (arith, w.sized)))

-- Bytes that are taken are the record of the table that they state.
pub record-forth : (r : List ℕ) → Bytes r → in_order (opening_checks r) ≡ passes
    → record_of (hours_in r) (table_in r) ≡ r
record-forth r bytes h = formed-again r bytes (opens-formed r h)

-- So the hours and the table decide the record.
pub record-one : (r q : List ℕ) → Bytes r → Bytes q → in_order (opening_checks r) ≡ passes
    → in_order (opening_checks q) ≡ passes
    → hours_in r ≡ hours_in q → table_in r ≡ table_in q → r ≡ q
record-one r q a b h k e f = sym (record-forth r a h) ∙ ap₂ record_of e f ∙ record-forth q b k
