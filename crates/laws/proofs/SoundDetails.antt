-- What sound root values and a sound node that is not a pair say: its halves join to its range, and they give its
-- details back. Assumes nothing.
use Rattle.kit.proofs.{◌≡◌, refl, sym, true, false, ◌&&◌, ◌||◌, ⊎_elim, ℕ, lit<, ℤ, pos, neg_ℤ, le_z, ◌≤ℤ◌, None, Some}
use Rattle.kit.proofs.{Option}
use Rattle.words.specs.Said.{held}
use Rattle.std.specs.Int.{int_min, int_max}
use Rattle.signed.specs.{is_number}
use Rattle.signed.proofs.{sub_parts, min-parts, max-parts, is_number-true, signed}
use Rattle.words.specs.{largest_reading, largest_detail, left_mark, right_mark, gap_mark, gap, low_of, high_of}
use Rattle.words.specs.{Readings}
use Rattle.words.specs.declared.{Range.Range}
use Rattle.om3.specs.Document.{is_reading, is_gap, both, low_detail, high_detail, left_low, right_low, left_high}
use Rattle.om3.specs.Document.{right_high, left_half, right_half, root_range, sound_root_values, is_detail, ordered}
use Rattle.om3.specs.Document.{both_are, sound_details}
use Rattle.laws.proofs.Tests.{and_left, and_right, or_cases, between}
use Rattle.laws.proofs.Down.{left_low-parts, right_low-parts, left_high-parts, right_high-parts, no-mark}

-- Two ranges are those of a node's halves: they join to its range, and are ranges of readings.
pub record Halves (r left right : Option Range) : Type 0 where
  pub joined : both left right ≡ r
  pub readings-left : Readings left
  pub readings-right : Readings right

-- Both of two numbers are this mark.
both-are : (mark : ℕ) (a b : ℤ) → both_are mark a b ≡ true → (a ≡ pos mark) × (b ≡ pos mark)
both-are mark a b h = (
  is_number-true mark a (and_left (is_number mark a) (is_number mark b) h),
  is_number-true mark b (and_right (is_number mark a) (is_number mark b) h),
)

-- The root values: the range they give is one of readings, and has them as its low and its high.
pub record RootValues (a b : ℤ) : Type 0 where
  pub readings : Readings (root_range a b)
  pub low : low_of (root_range a b) ≡ a
  pub high : high_of (root_range a b) ≡ b

-- The low of a range of readings is no gap mark, nor is its high.
module _ (a b : ℤ) (p : Readings (held a b)) where
  pub low-no-gap : is_gap a ≡ false
  low-no-gap = let u : a ≤ℤ pos largest_detail = omega signed in no-mark gap_mark a (lit< tt) u

  pub high-no-gap : is_gap b ≡ false
  high-no-gap = let u : b ≤ℤ pos largest_detail = omega signed in no-mark gap_mark b (lit< tt) u

  root-held : RootValues a b
  root-held = record { readings = rw low-no-gap p; low = rw low-no-gap; high = rw low-no-gap }

root-gap : RootValues gap gap
root-gap = record { readings = tt; low = refl; high = refl }

pub root-values : (a b : ℤ) → sound_root_values a b ≡ true → RootValues a b
root-values a b h =
    ⊎_elim
    (λ m. let is = both-are gap_mark a b m in rw (is.0, is.1) root-gap)
    (λ m.
    let f = and_left (is_reading a && is_reading b) (le_z a b) m in
    let x = between (neg_ℤ (pos largest_reading)) (pos largest_reading) a (and_left (is_reading a) (is_reading b) f) in
    let y = between (neg_ℤ (pos largest_reading)) (pos largest_reading) b (and_right (is_reading a) (is_reading b) f) in
    let z = and_right (is_reading a && is_reading b) (le_z a b) m in
    root-held a b (omega signed))
    (or_cases (is_gap a && is_gap b) (is_reading a && is_reading b && le_z a b) h)

-- A node that is not a pair: its halves, and its details given back by them.
pub record Details (r : Option Range) (d e : ℤ) : Type 0 where
  pub halves : Halves r (left_half r d e) (right_half r d e)
  pub low : low_detail (left_half r d e) (right_half r d e) ≡ d
  pub high : high_detail (left_half r d e) (right_half r d e) ≡ e

module _ (a b : ℤ) (p : Readings (held a b)) where
  left_alone : Details (held a b) (pos left_mark) (pos left_mark)
  left_alone =
      record { halves = record { joined = refl; readings-left = p; readings-right = tt }; low = refl; high = refl }

  right-alone : Details (held a b) (pos right_mark) (pos right_mark)
  right-alone =
      record { halves = record { joined = refl; readings-left = tt; readings-right = p }; low = refl; high = refl }

  module _ (d e : ℤ) where
    module _ (u : d ≤ℤ pos largest_detail) where
      left_is : left_half (held a b) d e ≡ held (left_low a d) (left_high b e)
      left_is = rw (no-mark left_mark d (lit< tt) u, no-mark right_mark d (lit< tt) u)

      right_is : right_half (held a b) d e ≡ held (right_low a d) (right_high b e)
      right_is = rw (no-mark left_mark d (lit< tt) u, no-mark right_mark d (lit< tt) u)

      two-halves : le_z (left_low a d) (left_high b e) ≡ true → le_z (right_low a d) (right_high b e) ≡ true
          → Details (held a b) d e
      two-halves hl hr =
          let La = left_low a d in
          let Ra = right_low a d in
          let Lb = left_high b e in
          let Rb = right_high b e in
          let lows : int_min La Ra ≡ a = omega (signed, min-parts La Ra, left_low-parts a d, right_low-parts a d) in
          let highs : int_max Lb Rb ≡ b = omega (signed, max-parts Lb Rb, left_high-parts b e, right_high-parts b e) in
          record {
            halves = record {
              joined = rw (left_is, right_is) (cc);
              readings-left = rw left_is (omega (signed, left_low-parts a d, left_high-parts b e));
              readings-right = rw right_is (omega (signed, right_low-parts a d, right_high-parts b e));
            };
            low = rw (left_is, right_is) (omega (signed, sub_parts La Ra, left_low-parts a d, right_low-parts a d));
            high = rw (left_is, right_is) (omega (signed, sub_parts Lb Rb, left_high-parts b e, right_high-parts b e));
          }

    -- Both are details, and each half has low ≤ high.
    two-details : (is_detail d && is_detail e && ordered (left_half (held a b) d e)
        && ordered (right_half (held a b) d e))
        ≡ true → Details (held a b) d e
    two-details m =
        let L = ordered (left_half (held a b) d e) in
        let R = ordered (right_half (held a b) d e) in
        let three = and_left (is_detail d && is_detail e && L) R m in
        let two = and_left (is_detail d && is_detail e) L three in
        let u = (between (neg_ℤ (pos largest_detail)) (pos largest_detail) d
        (and_left (is_detail d) (is_detail e) two)).1 in
        two-halves u (rw (left_is u) at (and_right (is_detail d && is_detail e) L three))
        (rw (right_is u) at (and_right (is_detail d && is_detail e && L) R m))

    held-details : sound_details (held a b) d e ≡ true → Details (held a b) d e
    held-details h =
        ⊎_elim
        (λ m. ⊎_elim
        (λ f. let is = both-are left_mark d e f in rw (is.0, is.1) left_alone)
        (λ f. let is = both-are right_mark d e f in rw (is.0, is.1) right-alone)
        (or_cases (both_are left_mark d e) (both_are right_mark d e) m))
        two-details
        (or_cases (both_are left_mark d e || both_are right_mark d e) _ h)

pub details : (r : Option Range) (d e : ℤ) → Readings r → sound_details r d e ≡ true → Details r d e
details None d e p h =
    record {
      halves = record { joined = refl; readings-left = tt; readings-right = tt };
      low = sym (both-are gap_mark d e h).0;
      high = sym (both-are gap_mark d e h).1;
    }
details (Some r) d e p h = held-details r.low r.high p d e h
