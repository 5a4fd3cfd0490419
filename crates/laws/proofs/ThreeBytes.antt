-- Numbers in three bytes, two's complement: their size, decoding after encoding, the range, encoding after decoding,
-- and one number in one way. Assumes nothing.
use Rattle.kit.proofs.{◌≡◌, refl, sym, ap, ◌∙◌, List, [], ◌∷◌, flat_map, ⊎_elim, ℕ, suc, ◌-◌, ◌*◌, ◌^◌, ◌≤◌, ◌<◌, arith}
use Rattle.kit.proofs.{ℤ, pos, negsuc, length, length-append, lt-ltb, le-ltb}
use Rattle.signed.proofs.{sub_parts, signed}
use Rattle.om3.specs.Document.{Bytes, number_from, InThree, bits_of, signed_of, three_bytes, signed_from}
use Rattle.laws.proofs.Tests.{below_or_not}
use Rattle.laws.proofs.Bytes.{bytes-length, bytes_back, number_small, bytes-forth}

-- Size.
pub three-size : (z : ℤ) → length (three_bytes z) ≡ 3
three-size z = bytes-length 3 (bits_of z)

pub threes-size : (zs : List ℤ) → length (flat_map three_bytes zs) ≡ 3 * length zs
unfolding flat_map
threes-size [] = refl
threes-size (z ∷ zs) =
    omega (arith, length-append (three_bytes z) (flat_map three_bytes zs), three-size z, threes-size zs)

-- Decoding after encoding.
pub signed_low : (x : ℕ) → x < 2 ^ 23 → signed_of x ≡ pos x
unfolding signed_of
signed_low x b = rw (lt-ltb x (2 ^ 23) b)

pub three_back : (z : ℤ) → InThree z → signed_from (three_bytes z) ≡ z
three_back (pos m) h =
    let small : m < 2 ^ 23 = omega (signed, h.1) in
    rw (bytes_back 3 m (omega arith)) (signed_low m small)
three_back (negsuc m) h =
    let few : suc m ≤ 2 ^ 23 = omega (signed, h.0) in
    let large : 2 ^ 23 ≤ 2 ^ 24 - suc m = omega arith in
    unfold signed_of in rw (bytes_back 3 (2 ^ 24 - suc m) (omega arith), le-ltb _ _ large)
    (omega (signed, sub_parts (pos (2 ^ 24 - suc m)) (pos (2 ^ 24))))

-- The range of what is decoded, and encoding after decoding.
module _ (x : ℕ) (h : x < 2 ^ 24) where
  signed_high : 2 ^ 23 ≤ x → signed_of x ≡ negsuc (2 ^ 24 - suc x)
  unfolding signed_of
  signed_high b = rw (le-ltb x (2 ^ 23) b) (omega (signed, sub_parts (pos x) (pos (2 ^ 24))))

  pub signed_range : InThree (signed_of x)
  signed_range =
      ⊎_elim
      (λ b. rw (signed_low x b) (omega signed, omega signed))
      (λ b. rw (signed_high b) (omega signed, omega signed))
      (below_or_not x (2 ^ 23))

  signed-forth : bits_of (signed_of x) ≡ x
  signed-forth = ⊎_elim (λ b. rw (signed_low x b)) (λ b. rw (signed_high b) (omega arith)) (below_or_not x (2 ^ 23))

module _ (bs : List ℕ) (bytes : Bytes bs) (e : length bs ≡ 3) where
  spelled-small : number_from bs < 2 ^ 24
  spelled-small = rw e at (number_small bs bytes)

  pub three-range : InThree (signed_from bs)
  three-range = signed_range (number_from bs) spelled-small

  pub three-forth : three_bytes (signed_from bs) ≡ bs
  three-forth = rw (signed-forth (number_from bs) spelled-small) (rw e at (bytes-forth bs bytes))

-- One number has one encoding, and one encoding is of one number.
pub three-one : (bs cs : List ℕ) → Bytes bs → length bs ≡ 3 → Bytes cs → length cs ≡ 3 → signed_from bs ≡ signed_from cs
    → bs ≡ cs
three-one bs cs p m q n e = sym (three-forth bs p m) ∙ ap three_bytes e ∙ three-forth cs q n

pub three-apart : (y z : ℤ) → InThree y → InThree z → three_bytes y ≡ three_bytes z → y ≡ z
three-apart y z p q e = sym (three_back y p) ∙ ap signed_from e ∙ three_back z q
