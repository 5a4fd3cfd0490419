-- The parts of a record are put one after the other, each right after what is there. Assumes nothing.
use Rattle.kit.proofs.{◌≡◌, refl, ◌∙◌, List, ◌++◌, flat_map, ℕ, ◌+◌, ◌-◌, ◌*◌, ◌/◌, ◌≤◌, arith, ℤ, length, take, drop}
use Rattle.kit.proofs.{set}
use Rattle.kit.proofs.{length-append, length-drop, length-take-le, take_all}
use Rattle.words.specs.{version}
use Rattle.om3.specs.Document.{P, lent, filled, bytes_of, three_bytes, length_for, record_length, header_of}
use Rattle.om3.specs.Document.{header_size}
use Rattle.om3.specs.Document.{record_of}
use Rattle.laws.proofs.Filled.{filled-length, filled-part, filled-set}
use Rattle.laws.proofs.{Bytes.bytes-length, ThreeBytes.threes-size, Records.header-size}
use Rattle.writing.specs.Writing.{Ready}

module _ (stated n : ℕ) (old : List ℕ) (long : header_size ≤ length old) where
  -- The first two fields.
  abbrev begun : List ℕ
  begun = bytes_of 4 stated ++ bytes_of 1 version

  begun-length : length begun ≡ 5
  begun-length =
      omega (
        arith,
        length-append (bytes_of 4 stated) (bytes_of 1 version),
        bytes-length 4 stated,
        bytes-length 1 version,
      )

  module _ (a : List ℕ) (e : a ≡ bytes_of (length (take 4 old)) stated) where
    begun-put : set (a ++ drop 4 old) 4 version ≡ filled begun old
    unfolding bytes_of
    begun-put =
        let four : 4 ≤ length old = omega arith in
        let field : a ≡ bytes_of 4 stated = e ∙ rw (length-take-le 4 old four) in
        let n : length (bytes_of 4 stated) ≡ 4 = bytes-length 4 stated in
        rw field (filled-set (bytes_of 4 stated) old version 0 4 n (omega arith))

    abbrev s : List ℕ
    s = set (a ++ drop 4 old) 4 version

    pub begun-room : header_size ≤ length s
    begun-room = rw begun-put (omega (arith, filled-length begun old (omega (arith, begun-length))))

    pub header-put : (b : List ℕ) → b ≡ bytes_of (length (take 2 (drop 5 s))) n
        → take 5 s ++ (b ++ drop 2 (drop 5 s)) ≡ filled (header_of stated n) old
    header-put b f =
        let two : length (take 2 (drop 5 s)) ≡ 2 =
        length-take-le 2 (drop 5 s) (omega (arith, length-drop 5 s, begun-room)) in
        let field : b ≡ bytes_of 2 n = f ∙ rw two in
        let w : 5 + length (bytes_of 2 n) ≡ 7 = omega (arith, bytes-length 2 n) in
        rw (field, begun-put) (filled-part begun old (bytes_of 2 n) 5 7 begun-length w)

-- The whole record, once its header is there.
module _ (n : ℕ) (cs : List ℤ) (ks old : List ℕ) (ready : Ready n cs ks (length old)) where
  pub enough : header_size + 3 * length cs + length ks ≤ length old
  enough = omega (arith, ready.coefficients, ready.codes, ready.room)

  module _ (size : ℕ) (e : size ≡ 4 + length_for (length cs)) (s : List ℕ)
      (h : s ≡ filled (header_of (size - 4) n) old) (p : List ℕ) (f : p ≡ flat_map three_bytes cs) where
    abbrev header : List ℕ
    header = header_of (size - 4) n

    abbrev at : ℕ
    at = header_size + 3 * length cs

    long : header_size ≤ length old
    long = omega (arith, enough)

    abbrev packed : List ℕ
    packed = take header_size s ++ (p ++ drop (at - header_size) (drop header_size s))

    coefficients-put : packed ≡ filled (header ++ flat_map three_bytes cs) old
    coefficients-put =
        let w : header_size + length (flat_map three_bytes cs) ≡ at = omega (arith, threes-size cs) in
        rw (h, f)
        (filled-part header old (flat_map three_bytes cs) header_size at (header-size (size - 4) n) w)

    stated-right : size - 4 ≡ record_length n
    stated-right = omega (arith, e, ready.coefficients)

    pub record-put : (q : List ℕ) → q ≡ ks
        → take at packed ++ (q ++ drop (at + length ks - at) (drop at packed)) ≡ filled (record_of n (lent cs ks)) old
    unfolding record_of
    record-put q g =
        let k : length (header ++ flat_map three_bytes cs) ≡ at =
        omega (
          arith,
          length-append header (flat_map three_bytes cs),
          header-size (size - 4) n,
          threes-size cs,
        ) in
        let all = take_all (P n) cs (omega (arith, ready.coefficients)) in
        let codes = take_all (P n / 2) ks (omega (arith, ready.codes)) in
        rw (g, coefficients-put)
        (filled-part (header ++ flat_map three_bytes cs) old ks at (at + length ks) k refl
        ∙ rw (stated-right, all, codes))
