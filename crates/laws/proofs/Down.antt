-- Going down from a node's range with its details gives the ranges of its halves, and only they do. Assumes nothing.
use Rattle.kit.proofs.{◌≡◌, refl, Bool, true, false, cond, ℕ, ◌+◌, ◌-◌, ◌<◌, lit<, ℤ, pos, negsuc, ◌-ℤ◌, le_z, lt_z}
use Rattle.kit.proofs.{None, Option, Some, ◌≤ℤ◌, ne_eqb}
use Rattle.words.specs.Said.{held}
use Rattle.std.specs.Int.{int_min, int_max}
use Rattle.signed.specs.{is_number}
use Rattle.signed.proofs.{up, dn, add_parts, sub_parts, min-parts, max-parts, signed}
use Rattle.words.specs.{largest_detail, left_mark, right_mark, gap_mark, low_of, high_of, Readings}
use Rattle.words.specs.declared.{Range.Range}
use Rattle.om3.specs.Document.{is_gap, hour_range, both, low_detail, high_detail, code, left_low, right_low, left_high}
use Rattle.om3.specs.Document.{right_high, left_half, right_half, first_of_pair, second_of_pair, root_range}
use Rattle.laws.proofs.Tests.{chosen}

-- The left low is the low plus what the detail is over zero; the other three likewise.
pub left_low-parts : (a d : ℤ) → up (left_low a d) + dn a ≡ up a + (up d - dn d) + dn (left_low a d)
left_low-parts a d =
    chosen (λ z. up z + dn a ≡ up a + (up d - dn d) + dn z) (le_z d (pos 0)) (λ e. omega signed)
    (λ e. omega (signed, add_parts a d))

pub right_low-parts : (a d : ℤ) → up (right_low a d) + dn a ≡ up a + (dn d - up d) + dn (right_low a d)
right_low-parts a d =
    chosen (λ z. up z + dn a ≡ up a + (dn d - up d) + dn z) (le_z d (pos 0)) (λ e. omega (signed, sub_parts a d))
    (λ e. omega signed)

pub left_high-parts : (a d : ℤ) → up (left_high a d) + dn a + (dn d - up d) ≡ up a + dn (left_high a d)
left_high-parts a d =
    chosen (λ z. up z + dn a + (dn d - up d) ≡ up a + dn z) (le_z (pos 0) d) (λ e. omega signed)
    (λ e. omega (signed, add_parts a d))

pub right_high-parts : (a d : ℤ) → up (right_high a d) + dn a + (up d - dn d) ≡ up a + dn (right_high a d)
right_high-parts a d =
    chosen (λ z. up z + dn a + (up d - dn d) ≡ up a + dn z) (le_z (pos 0) d) (λ e. omega (signed, sub_parts a d))
    (λ e. omega signed)

-- A number that is no more than the largest detail is no mark.
pub no-mark : (k : ℕ) (z : ℤ) → largest_detail < k → z ≤ℤ pos largest_detail → is_number k z ≡ false
no-mark k (pos m) b h = ne_eqb m k (λ e. omega signed)
no-mark k (negsuc m) b h = refl

-- From the lesser of two lows and their difference both lows come back; from the greater of two highs both highs.
held_back : (a b c d : ℤ) → Readings (held a b) → Readings (held c d)
    → (left_half (both (held a b) (held c d)) (a -ℤ c) (b -ℤ d) ≡ held a b)
    × (right_half (both (held a b) (held c d)) (a -ℤ c) (b -ℤ d) ≡ held c d)
held_back a b c d p q =
    let x = int_min a c in
    let y = int_max b d in
    let small : (a -ℤ c) ≤ℤ pos largest_detail = omega (signed, sub_parts a c) in
    let a_back : left_low x (a -ℤ c) ≡ a = omega (signed, min-parts a c, sub_parts a c, left_low-parts x (a -ℤ c)) in
    let c-back : right_low x (a -ℤ c) ≡ c = omega (signed, min-parts a c, sub_parts a c, right_low-parts x (a -ℤ c)) in
    let b-back : left_high y (b -ℤ d) ≡ b = omega (signed, max-parts b d, sub_parts b d, left_high-parts y (b -ℤ d)) in
    let d-back : right_high y (b -ℤ d) ≡ d =
    omega (signed, max-parts b d, sub_parts b d, right_high-parts y (b -ℤ d)) in
    rw (no-mark left_mark (a -ℤ c) (lit< tt) small, no-mark right_mark (a -ℤ c) (lit< tt) small) (cc, cc)

pub halves-back : (r s : Option Range) → Readings r → Readings s
    → (left_half (both r s) (low_detail r s) (high_detail r s) ≡ r)
    × (right_half (both r s) (low_detail r s) (high_detail r s) ≡ s)
halves-back None None p q = (refl, refl)
halves-back None (Some r) p q = (refl, refl)
halves-back (Some r) None p q = (refl, refl)
halves-back (Some r) (Some u) p q = held_back r.low r.high u.low u.high p q

-- The root values give node 1's range.
pub root-back : (r : Option Range) → Readings r → root_range (low_of r) (high_of r) ≡ r
root-back None p = refl
root-back (Some r) p =
    let h : r.low ≤ℤ pos largest_detail = omega signed in
    rw (no-mark gap_mark r.low (lit< tt) h)

-- A pair's range and code give its two hours.
abbrev pub hour_if : Bool → ℤ → Option Range
hour_if f z = cond f None (held z z)

abbrev pub code_if : Bool → Bool → Bool → ℕ
code_if f g h = cond f (cond g 4 3) (cond g 2 (cond h 1 0))

module _ (x y : ℤ) where
  pub hours-back : (first_of_pair (both (hour_range x) (hour_range y)) (code x y) ≡ hour_range x)
      × (second_of_pair (both (hour_range x) (hour_range y)) (code x y) ≡ hour_range y)
  hours-back = by (is_gap x) (is_gap y) (lt_z x y) refl
    where
      by : (f g h : Bool) → lt_z x y ≡ h
          → (first_of_pair (both (hour_if f x) (hour_if g y)) (code_if f g h) ≡ hour_if f x)
          × (second_of_pair (both (hour_if f x) (hour_if g y)) (code_if f g h) ≡ hour_if g y)
      by true true h e = (refl, refl)
      by true false h e = (refl, refl)
      by false true h e = (refl, refl)
      by false false true e =
          let low : int_min x y ≡ x = omega (signed, min-parts x y) in
          let high : int_max x y ≡ y = omega (signed, max-parts x y) in
          (cc, cc)
      by false false false e =
          let low : int_min x y ≡ y = omega (signed, min-parts x y) in
          let high : int_max x y ≡ x = omega (signed, max-parts x y) in
          (cc, cc)
