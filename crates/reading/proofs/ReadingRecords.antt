-- Reading a record is reading its parts once it is opened: they are the table that its bytes state. Assumes nothing.
use Rattle.kit.proofs.{◌≡◌, refl, sym, ap, ◌∙◌, List, ℕ, ◌+◌, ◌-◌, ◌*◌, ◌/◌, ◌≤◌, ◌<◌, arith, ℤ, pos, length, take}
use Rattle.kit.proofs.{Err, Ok, Result}
use Rattle.kit.proofs.{drop, length-drop, length-take-le, take-take, take-add, drop_at, drop-drop, ext_get_or}
use Rattle.words.specs.declared.{Refusal.Refusal, Opening.Opening}
use Rattle.om3.specs.Document.{P, lent, Check, passes, refuses, in_order, Bytes, signed_from, bytes_at}
use Rattle.om3.specs.Document.{header_size, hours_in, coefficient_in, table_in, opening_checks, unpacking_checks}
use Rattle.om3.specs.Document.{opening}
use Rattle.laws.proofs.{Lists.map-up-length, RecordsOpened.opens-formed, RecordsOpened.asked-unpacked}
use Rattle.laws.proofs.{RecordsTaken.unpacking-parted}
use Rattle.opening.proofs.Asked.{told, hours_told, places_told}
use Rattle.packing.specs.Packing.{coefficient_from, unpacked}
use Rattle.examining_bytes.specs.Packed.{PackedTable}
use Rattle.reading.specs.Reading.{parts_check, PartsRead, RecordRead}
use Rattle.examining_bytes.proofs.Unpacked.{unpacked-length, unpacked-at}

-- A part of the first b bytes is that part of all of them.
part-within : (l : List ℕ) (p w b : ℕ) → p + w ≤ b → b ≤ length l → bytes_at (take b l) p w ≡ bytes_at l p w
part-within l p w b h room =
    let m = b - p in
    let e : b ≡ p + m = omega arith in
    let first = length-take-le p l (omega arith) in
    rw (e, take-add p m l, drop_at (take p l) (take m (drop p l)) p first) (take-take w m (drop p l) (omega arith))

module _ (r : List ℕ) where
  -- The record is opened: it has n hours and p places.
  pub record Opened (n p : ℕ) : Type 0 where
    pub opens : in_order (opening_checks r) ≡ passes
    pub hours : n ≡ hours_in r
    pub places : p ≡ P (hours_in r)

  pub opened : (o : Opening) → Ok o ≡ opening r → Opened o.hours o.places
  unfolding opening
  opened o e = by (in_order (opening_checks r)) refl e
    where
      by : (c : Check) → in_order (opening_checks r) ≡ c → Ok o ≡ told r c → Opened o.hours o.places
      by passes opens h = record { opens = opens; hours = ap hours_told h; places = ap places_told h }
      by (refuses why) opens h = let z : ◌≡◌ {A = ℕ} 0 1 = cc in absurd (omega arith)

  pub refused-read : (why : Refusal) → Err why ≡ opening r → Bytes r → (cs : List ℤ) (ks : List ℕ)
      → RecordRead r cs ks cs ks (Err why)
  unfolding opening
  refused-read why e bytes cs ks = by (in_order (opening_checks r)) refl e
    where
      by : (c : Check) → in_order (opening_checks r) ≡ c → Err why ≡ told r c
          → RecordRead r cs ks cs ks (Err why)
      by passes o h = let z : ◌≡◌ {A = ℕ} 0 1 = cc in absurd (omega arith)
      by (refuses other) o h =
          let same : why ≡ other = cc in
          let checks : in_order (unpacking_checks r (lent cs ks)) ≡ refuses why =
          unpacking-parted r (lent cs ks) ∙ rw (o, same) in
          record { bytes = bytes; answer = rw checks; coefficients = rw checks; codes = rw checks }

  module _ (n p : ℕ) (o : Opened n p) where
    abbrev after : ℕ
    after = header_size + 3 * p

    -- The bytes of the coefficients, and the codes.
    abbrev packed : List ℕ
    packed = take (after - header_size) (drop header_size r)

    abbrev codes : List ℕ
    codes = take (length r - after) (drop after r)

    pub record-length : length r ≡ after + p / 2
    record-length = rw o.places (omega (arith, (opens-formed r o.opens).sized))

    packed-room : after - header_size ≤ length (drop header_size r)
    packed-room = omega (arith, length-drop header_size r, record-length)

    packed-length : length packed ≡ 3 * p
    packed-length = length-take-le (after - header_size) (drop header_size r) packed-room ∙ omega arith

    codes-length : length codes ≡ p / 2
    codes-length =
        length-take-le (length r - after) (drop after r) (omega (arith, length-drop after r))
        ∙ omega (arith, record-length)

    pub packed-table : PackedTable n p packed codes
    packed-table =
        record { places = o.places ∙ sym (ap P o.hours); coefficients = packed-length; codes = codes-length }

    -- What the parts hold is the table that the bytes state.
    coefficient-same : (i : ℕ) → i < p → coefficient_from packed i ≡ coefficient_in r i
    coefficient-same i h =
        ap signed_from
        (part-within (drop header_size r) (3 * i) 3 (after - header_size) (omega arith) packed-room
        ∙ ap (take 3) (drop-drop (3 * i) header_size r))

    coefficients-in : unpacked packed ≡ (table_in r).coefficients
    unfolding table_in
    coefficients-in =
        let size : length (unpacked packed) ≡ p = unpacked-length packed ∙ omega (arith, packed-length) in
        ext_get_or (pos 0) (unpacked packed) (table_in r).coefficients
        (size ∙ o.places ∙ sym (map-up-length (coefficient_in r) 0 (P (hours_in r))))
        (λ i h.
        let h' : i < p = omega (arith, size, h) in
        unpacked-at packed i (omega (arith, packed-length)) ∙ coefficient-same i h'
        ∙ asked-unpacked r i (rw o.places at h'))

    codes-in : codes ≡ (table_in r).codes
    unfolding table_in
    codes-in =
        let w : length r - after ≡ p / 2 = omega (arith, record-length) in
        rw (w, o.places)

    -- So the checks that are left are those of the parts.
    module _ (cs : List ℤ) (ks : List ℕ) where
      checks-left : parts_check n packed codes cs ks ≡ in_order (unpacking_checks r (lent cs ks))
      checks-left = rw (unpacking-parted r (lent cs ks), o.opens, coefficients-in, codes-in, o.hours)

      pub parts-read : {cs' : List ℤ} {ks' : List ℕ} {u : Result ℕ Refusal} → Bytes r
          → PartsRead n packed codes cs ks cs' ks' u → RecordRead r cs ks cs' ks' u
      parts-read bytes x =
          record {
            bytes = bytes;
            answer = rw (← checks-left, ← o.hours) x.answer;
            coefficients = rw (← checks-left, ← coefficients-in) x.coefficients;
            codes = rw (← checks-left, ← codes-in) x.codes;
          }

-- The bytes of an opened record are those of its header, its coefficients and its codes.
pub opened_length : (r : List ℕ) {o : Opening} → Ok o ≡ opening r
    → length r ≡ header_size + 3 * o.places + o.places / 2
opened_length r {o} e = record-length r o.hours o.places (opened r o e)
