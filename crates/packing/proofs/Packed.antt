-- Coefficients packed one after the other, three bytes each: the bytes of one of them, one more packed, one more
-- unpacked. Assumes nothing.
use Rattle.kit.proofs.{◌≡◌, refl, sym, ap, ◌∙◌, List, [], ◌∷◌, ◌++◌, map, flat_map, append-nil, append_assoc}
use Rattle.kit.proofs.{map-append}
use Rattle.kit.proofs.{ℕ, suc, ◌+◌, ◌-◌, ◌*◌, ◌/◌, ◌^◌, ◌≤◌, ◌<◌, zero-add, arith, ℤ, pos, length, get_or, take, drop}
use Rattle.kit.proofs.{set, mag, w32, to_z, of_z, take_all, take-suc, length-take-le}
use Rattle.signed.proofs.{reads-back}
use Rattle.om3.specs.Document.{up_from, filled, bytes_of, bytes_at, bits_of, three_bytes}
use Rattle.laws.proofs.{Lists.up-append, Lists.map-up-length, ThreeBytes.three-size, ThreeBytes.threes-size}
use Rattle.laws.proofs.{RecordsForth.part_length}
use Rattle.laws.proofs.Filled.{filled-length, filled-part, filled-set, filled-all}
use Rattle.packing.specs.Packing.{coefficient_from, unpacked}

-- What the machine reads back from a number's bits.
abbrev back : ℤ → ℤ
back z = to_z w32 (of_z w32 z)

-- The part of place p goes from 3p up to, not including, 3p + 3.
abbrev place : List ℕ → ℕ → List ℕ
place bs p = take (3 * p + 3 - 3 * p) (drop (3 * p) bs)

pub part-three : (bs : List ℕ) (p : ℕ) → place bs p ≡ bytes_at bs (3 * p) 3
part-three bs p = let e : 3 * p + 3 - 3 * p ≡ 3 = omega arith in ap (λ (w : ℕ). take w (drop (3 * p) bs)) e

threes-snoc : (cs : List ℤ) (z : ℤ) → flat_map three_bytes (cs ++ (z ∷ [])) ≡ flat_map three_bytes cs ++ three_bytes z
unfolding flat_map
threes-snoc [] z = append-nil (three_bytes z)
threes-snoc (y ∷ cs) z =
    ap (λ (l : List ℕ). three_bytes y ++ l) (threes-snoc cs z)
    ∙ sym (append_assoc (three_bytes y) (flat_map three_bytes cs) (three_bytes z))

-- The first p coefficients are packed.
pub record Packed (cs : List ℤ) (old out : List ℕ) (p : ℕ) : Type 0 where
  pub within : p ≤ length cs
  pub packed : out ≡ filled (flat_map three_bytes (take p cs)) old

module _ (cs : List ℤ) (old : List ℕ) (size : length old ≡ 3 * length cs) where
  pub packed_none : Packed cs old old 0
  unfolding flat_map
  packed_none = record { within = omega arith; packed = refl }

  first-length : (p : ℕ) → p ≤ length cs → length (flat_map three_bytes (take p cs)) ≡ 3 * p
  first-length p h = threes-size (take p cs) ∙ ap (λ (k : ℕ). 3 * k) (length-take-le p cs h)

  module _ (out : List ℕ) (p : ℕ) (k : Packed cs old out p) where
    abbrev first : List ℕ
    first = flat_map three_bytes (take p cs)

    pub packed-length : length out ≡ length old
    packed-length =
        rw k.packed (filled-length first old (omega (arith, size, k.within, first-length p k.within)))

    part-spelled : (part : List ℕ) (bits : ℕ) → p < length cs → bits ≡ bits_of (get_or cs p (pos 0))
        → part ≡ bytes_of (length (place out p)) bits → part ≡ three_bytes (get_or cs p (pos 0))
    part-spelled part bits h b e =
        let w = part_length out (3 * p) 3 (omega (arith, packed-length, size)) in
        e ∙ rw (part-three out p, w, b)

    pub packed_more : (part : List ℕ) (bits : ℕ) → part ≡ bytes_of (length (place out p)) bits
        → bits ≡ bits_of (back (get_or cs p (pos 0))) → mag (get_or cs p (pos 0)) < 2 ^ 31 → p < length cs
        → Packed cs old (take (3 * p) out ++ (part ++ drop (3 * p + 3 - 3 * p) (drop (3 * p) out))) (p + 1)
    packed_more part bits e₀ b m h =
        let z = get_or cs p (pos 0) in
        let e = part-spelled part bits h (b ∙ ap bits_of (reads-back z m)) e₀ in
        let s : p + 1 ≡ suc p = omega arith in
        let w : 3 * p + length (three_bytes z) ≡ 3 * p + 3 = omega (arith, three-size z) in
        record {
          within = omega arith;
          packed =
              rw (k.packed, e, filled-part first old (three_bytes z) _ _ (first-length p k.within) w, s)
              (ap (λ (new : List ℕ). filled new old)
              (sym (ap (flat_map three_bytes) (take-suc cs p (pos 0) h) ∙ threes-snoc (take p cs) z)));
        }

    pub packed_all : length cs ≤ p → out ≡ flat_map three_bytes cs
    packed_all h =
        k.packed
        ∙ filled-all first old (omega (arith, size, k.within, first-length p k.within))
        ∙ ap (flat_map three_bytes) (take_all p cs h)

-- The first p places hold what the bytes spell.
pub record Unpacked (bs : List ℕ) (old out : List ℤ) (p : ℕ) : Type 0 where
  pub within : p ≤ length old
  pub unpacked : out ≡ filled (map (coefficient_from bs) (up_from 0 p)) old

module _ (bs : List ℕ) (old : List ℤ) where
  pub unpacked-none : Unpacked bs old old 0
  unfolding up_from
  unpacked-none = record { within = omega arith; unpacked = refl }

  up-snoc : (p : ℕ) → map (coefficient_from bs) (up_from 0 (p + 1))
      ≡ map (coefficient_from bs) (up_from 0 p) ++ (coefficient_from bs p ∷ [])
  unfolding up_from
  up-snoc p =
      ap (map (coefficient_from bs)) (up-append 0 p 1)
      ∙ map-append (coefficient_from bs) (up_from 0 p) (up_from (0 + p) 1)
      ∙ ap (λ (q : ℕ). map (coefficient_from bs) (up_from 0 p) ++ (coefficient_from bs q ∷ [])) (zero-add p)

  module _ (out : List ℤ) (p : ℕ) (k : Unpacked bs old out p) where
    abbrev before : List ℤ
    before = map (coefficient_from bs) (up_from 0 p)

    abbrev before-length : length before ≡ p
    before-length = map-up-length (coefficient_from bs) 0 p

    pub unpacked-more : {z : ℤ} → p < length old → z ≡ coefficient_from bs p → mag z < 2 ^ 31
        → Unpacked bs old (set out p (back z)) (p + 1)
    unpacked-more {z} h e m =
        record {
          within = omega arith;
          unpacked =
              rw (k.unpacked, reads-back z m, e, up-snoc p)
              (filled-set before old (coefficient_from bs p) (pos 0) p before-length h);
        }

    pub unpacked-all : length old ≤ p → length old ≡ length bs / 3 → out ≡ unpacked bs
    unfolding unpacked
    unpacked-all h size =
        let e : p ≡ length bs / 3 = omega (arith, k.within) in
        k.unpacked
        ∙ filled-all before old (omega (arith, before-length))
        ∙ ap (λ (c : ℕ). map (coefficient_from bs) (up_from 0 c)) e
