-- When ranges lie within one another and readings within ranges: the order, joined ranges, and the range of a stretch
-- of hours, which covers each reading there and lies within any range that does. Assumes nothing.
use Rattle.kit.proofs.{ap₂, ◌≡◌, refl, Bool, true, false, cond, List, map, ⊎_elim, ℕ, zero, suc, ◌+◌, ◌≤◌, ◌<◌, le_refl}
use Rattle.kit.proofs.{None, Option, Some, eq-or-lt_of_le, arith, ℤ}
use Rattle.words.specs.Said.{held}
use Rattle.signed.proofs.{min-parts, max-parts, signed}
use Rattle.words.specs.declared.{Range.Range}
use Rattle.om3.specs.Document.{up_from, is_gap, hour, hours_from, hour_of, hour_range, both, look, Covers, LiesWithin}

-- The order.
pub within-refl : (r : Option Range) → LiesWithin r r
within-refl None = tt
within-refl (Some r) = omega signed

pub within-trans : (r q u : Option Range) → LiesWithin r q → LiesWithin q u → LiesWithin r u
within-trans None q u i j = tt
within-trans (Some r) None u i j = absurd i
within-trans (Some r) (Some q) None i j = j
within-trans (Some r) (Some q) (Some u) i j = omega signed

pub within_same : (r q : Option Range) → LiesWithin r q → LiesWithin q r → r ≡ q
within_same None None i j = refl
within_same None (Some r) i j = absurd j
within_same (Some r) None i j = absurd i
within_same (Some r) (Some u) i j =
    let p : r.low ≡ u.low = omega signed in
    let q : r.high ≡ u.high = omega signed in
    ap₂ held p q

covers-within : (z : ℤ) (r q : Option Range) → Covers r z → LiesWithin r q → Covers q z
covers-within z None q i j = absurd i
covers-within z (Some r) None i j = j
covers-within z (Some r) (Some q) i j = omega signed

-- Joined ranges.
first-within : (r q : Option Range) → LiesWithin r (both r q)
first-within None q = tt
first-within (Some r) None = omega signed
first-within (Some r) (Some q) = omega (signed, min-parts r.low q.low, max-parts r.high q.high)

second-within : (r q : Option Range) → LiesWithin q (both r q)
second-within None q = within-refl q
second-within (Some r) None = tt
second-within (Some r) (Some q) = omega (signed, min-parts r.low q.low, max-parts r.high q.high)

pub both-within : (r q u : Option Range) → LiesWithin r u → LiesWithin q u → LiesWithin (both r q) u
both-within None q u i j = j
both-within (Some r) None u i j = i
both-within (Some r) (Some q) None i j = i
both-within (Some r) (Some q) (Some u) i j = omega (signed, min-parts r.low q.low, max-parts r.high q.high)

pub both-widen : (r q u w : Option Range) → LiesWithin r u → LiesWithin q w → LiesWithin (both r q) (both u w)
both-widen r q u w i j =
    both-within r q (both u w) (within-trans r u (both u w) i (first-within u w))
    (within-trans q w (both u w) j (second-within u w))

pub first-covers : (z : ℤ) (r q : Option Range) → Covers r z → Covers (both r q) z
first-covers z r q i = covers-within z r (both r q) i (first-within r q)

pub second-covers : (z : ℤ) (r q : Option Range) → Covers q z → Covers (both r q) z
second-covers z r q i = covers-within z q (both r q) i (second-within r q)

-- The range of one hour, and of a stretch of hours.
hour-covers : (z : ℤ) → is_gap z ≡ false → Covers (hour_range z) z
hour-covers z e = rw e (omega signed)

hour-within : (z : ℤ) (r : Option Range) → (is_gap z ≡ false → Covers r z) → LiesWithin (hour_range z) r
hour-within z r f = by (is_gap z) r f
  where
    by : (b : Bool) (r : Option Range) → (b ≡ false → Covers r z) → LiesWithin (cond b None (held z z)) r
    by true r f = tt
    by false None f = f refl
    by false (Some r) f = f refl

module _ (n : ℕ) (s : List ℤ) where
  abbrev hour_at : ℕ → ℤ
  hour_at k = hour_of n s (hour k)

  abbrev stretch : ℕ → ℕ → Option Range
  stretch f c = look (map (hour_of n s) (hours_from f c))

  pub hours-cover : (k : ℕ) → is_gap (hour_at k) ≡ false → (f c : ℕ) → f ≤ k → k < f + c
      → Covers (stretch f c) (hour_at k)
  unfolding look up_from
  hours-cover k e f zero a b = absurd (omega arith)
  hours-cover k e f (suc c) a b =
      ⊎_elim
      (λ q. first-covers (hour_at k) (hour_range (hour_at f)) (stretch (f + 1) c) (rw q (hour-covers (hour_at k) e)))
      (λ p.
      second-covers (hour_at k) (hour_range (hour_at f)) (stretch (f + 1) c)
      (hours-cover k e (f + 1) c (omega arith) (omega arith)))
      (eq-or-lt_of_le a)

  pub hours-within : (r : Option Range) (f c : ℕ)
      → ((k : ℕ) → f ≤ k → k < f + c → is_gap (hour_at k) ≡ false → Covers r (hour_at k)) → LiesWithin (stretch f c) r
  unfolding look up_from
  hours-within r f zero each = tt
  hours-within r f (suc c) each =
      both-within (hour_range (hour_at f)) (stretch (f + 1) c) r
      (hour-within (hour_at f) r (each f (le_refl f) (omega arith)))
      (hours-within r (f + 1) c (λ k a b. each k (omega arith) (omega arith)))
