-- Ranges of neighbouring hours join, an empty one changes nothing, and the ranges of a series lie within readings.
-- Assumes nothing.
use Rattle.kit.proofs.{◌≡◌, refl, sym, ap, ◌∙◌, true, ◌||◌, List, [], ◌∷◌, ◌++◌, map, map-append, ⊎_elim, ℕ, ◌<◌, ltb}
use Rattle.kit.proofs.{None, Option, Some, ℤ, pos, neg_ℤ, get_or, ltb-true}
use Rattle.std.specs.Int.{int_min, int_max}
use Rattle.signed.proofs.{clash, min-parts, max-parts, is_number-true, signed}
use Rattle.words.specs.{largest_reading, gap_mark, gap, low_of, Readings}
use Rattle.words.specs.declared.{Timestamp.Timestamp, Range.Range}
use Rattle.om3.specs.Document.{is_reading, is_gap, Holds, hour_of, Node, left, right, hours, hour_range, both, look}
use Rattle.om3.specs.Document.{range_of}
use Rattle.laws.proofs.{Nodes.hours-halves, Tests.or_cases, Tests.chosen, Tests.between}

pub min_assoc : (a b c : ℤ) → int_min (int_min a b) c ≡ int_min a (int_min b c)
min_assoc a b c = omega (signed, min-parts a b, min-parts b c, min-parts (int_min a b) c, min-parts a (int_min b c))

pub max_assoc : (a b c : ℤ) → int_max (int_max a b) c ≡ int_max a (int_max b c)
max_assoc a b c = omega (signed, max-parts a b, max-parts b c, max-parts (int_max a b) c, max-parts a (int_max b c))

pub both-assoc : (r s u : Option Range) → both (both r s) u ≡ both r (both s u)
both-assoc None s u = refl
both-assoc (Some r) None u = refl
both-assoc (Some r) (Some q) None = refl
both-assoc (Some r) (Some q) (Some u) = cc (min_assoc r.low q.low u.low, max_assoc r.high q.high u.high)

pub both-empty : (r : Option Range) → both r None ≡ r
both-empty None = refl
both-empty (Some r) = refl

-- The low of one hour's range is what the hour holds.
pub low-hour : (z : ℤ) → low_of (hour_range z) ≡ z
low-hour z = chosen (λ r. low_of r ≡ z) (is_gap z) (λ e. sym (is_number-true gap_mark z e)) (λ e. refl)

-- Two neighbouring stretches of hours: their ranges join.
pub look-append : (xs ys : List ℤ) → look (xs ++ ys) ≡ both (look xs) (look ys)
unfolding look
look-append [] ys = refl
look-append (x ∷ xs) ys =
    ap (both (hour_range x)) (look-append xs ys) ∙ sym (both-assoc (hour_range x) (look xs) (look ys))

pub range-halves : (l n : ℕ) (s : List ℤ) (v : Node) → v.level < l
    → range_of l n s v ≡ both (range_of l n s (left v)) (range_of l n s (right v))
unfolding range_of
range-halves l n s v b =
    rw (hours-halves l v b, map-append (hour_of n s) (hours l (left v)) (hours l (right v)))
    (look-append (map (hour_of n s) (hours l (left v))) (map (hour_of n s) (hours l (right v))))

pub readings-both : (r s : Option Range) → Readings r → Readings s → Readings (both r s)
readings-both None s p q = q
readings-both (Some r) None p q = p
readings-both (Some r) (Some u) p q = omega (signed, min-parts r.low u.low, max-parts r.high u.high)

-- An hour that holds a reading or a gap.
readings-hour : (z : ℤ) → (is_reading z || is_gap z) ≡ true → Readings (hour_range z)
readings-hour z h =
    chosen Readings (is_gap z) (λ e. tt) (λ e.
    let f : is_reading z ≡ true = ⊎_elim (λ p. p) (λ c. clash (sym e ∙ c)) (or_cases (is_reading z) (is_gap z) h) in
    omega (signed, between (neg_ℤ (pos largest_reading)) (pos largest_reading) z f))

module _ (n : ℕ) (s : List ℤ) (holds : Holds n s) where
  pub readings-at : (h : Timestamp) → Readings (hour_range (hour_of n s h))
  unfolding hour_of
  readings-at h =
      chosen (λ z. Readings (hour_range z)) (ltb h.0 n)
      (λ e. readings-hour (get_or s h.0 gap) (holds h.0 (ltb-true h.0 n e))) (λ e. tt)

  pub readings-look : (hs : List Timestamp) → Readings (look (map (hour_of n s) hs))
  unfolding look
  readings-look [] = tt
  readings-look (h ∷ hs) =
      readings-both (hour_range (hour_of n s h)) (look (map (hour_of n s) hs)) (readings-at h) (readings-look hs)

  pub readings-range : (l : ℕ) (v : Node) → Readings (range_of l n s v)
  unfolding range_of
  readings-range l v = readings-look (hours l v)
