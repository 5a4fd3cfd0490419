-- The places of a node that covers w hours, and of its halves, lie within a buffer that has room for all below it.
-- `search halved` finds by them what a function that goes down by halves has to show: that what it reads is there, that
-- no number overflows, and that each half covers fewer hours and has what the node has. Assumes nothing.
use Rattle.kit.proofs.{◌≡◌, ap, ◌∙◌, ℕ, ◌+◌, ◌*◌, ◌/◌, ◌^◌, ◌≤◌, ◌<◌, mul_assoc, mul-le-mul_left, mul-le-mul_right}
use Rattle.kit.proofs.{arith, w64, Fits}

pub places-room : (i w size : ℕ) → 2 ≤ w → (i + 1) * w ≤ size → 2 * i + 2 ≤ size
places-room i w size h room = omega (arith, mul-le-mul_left (i + 1) h)

two-halves : (i k : ℕ) → (2 * i + 1 + 1) * k ≡ (i + 1) * (2 * k)
two-halves i k =
    let e : 2 * i + 1 + 1 ≡ (i + 1) * 2 = omega arith in
    ap (λ (m : ℕ). m * k) e ∙ mul_assoc (i + 1) 2 k

pub right-room : (i w size : ℕ) → (i + 1) * w ≤ size → (2 * i + 1 + 1) * (w / 2) ≤ size
right-room i w size room =
    let d : 2 * (w / 2) ≤ w = omega arith in
    omega (arith, two-halves i (w / 2), mul-le-mul_left (i + 1) d)

pub left-room : (i w size : ℕ) → (i + 1) * w ≤ size → (2 * i + 1) * (w / 2) ≤ size
left-room i w size room =
    let d : 2 * i + 1 ≤ 2 * i + 1 + 1 = omega arith in
    omega (arith, right-room i w size room, mul-le-mul_right (w / 2) d)

-- The details of a node that is no pair stand at the numbers of its halves.
module _ (i w size : ℕ) (room : (i + 1) * (w / 2) ≤ size) (wide : 4 ≤ w) where
  pub both-places : 2 * i + 2 ≤ size
  both-places = places-room i (w / 2) size (omega arith) room

  pub low-place : 2 * i < size
  low-place = omega (arith, both-places)

  pub high-place : 2 * i + 1 < size
  high-place = omega (arith, both-places)

  module _ (bytes : size * 4 < 2 ^ 63) where
    pub left-number-small : 2 * i < 2 ^ 63
    left-number-small = omega (arith, both-places)

    pub left-number-fits : Fits w64 (2 * i)
    left-number-fits = omega (arith, both-places)

    pub right-number-fits : Fits w64 (2 * i + 1)
    right-number-fits = omega (arith, both-places)

    pub low-place-fits : Fits w64 (2 * i * 4)
    low-place-fits = omega (arith, both-places)

    pub high-place-fits : Fits w64 ((2 * i + 1) * 4)
    high-place-fits = omega (arith, both-places)

-- A half covers fewer hours, and its hours are among the node's.
pub half-falls : (w t : ℕ) → w ≡ t → 2 ≤ w → w / 2 < t
half-falls w t e h = omega arith

pub half-of-four : (w : ℕ) → 4 ≤ w → 2 ≤ w / 2
half-of-four w h = omega arith

module _ (f w size : ℕ) (hours : f + w ≤ 2 * size) where
  pub pair-hours : 2 ≤ w → f + 2 ≤ 2 * size
  pair-hours h = omega arith

  pub two-pairs-hours : 4 ≤ w → f + 4 ≤ 2 * size
  two-pairs-hours h = omega arith

  pub left-hours : f + w / 2 ≤ 2 * size
  left-hours = omega arith

  pub right-hours : f + w / 2 + w / 2 ≤ 2 * size
  right-hours = omega arith

  pub middle-fits : size * 1 < 2 ^ 63 → Fits w64 (f + w / 2)
  middle-fits h = omega arith

-- The same after calls that kept the length of a buffer, one or two of them.
module _ (size size₁ : ℕ) (kept : size₁ ≡ size) where
  pub right-room-kept : (i w : ℕ) → (i + 1) * w ≤ size → (2 * i + 1 + 1) * (w / 2) ≤ size₁
  right-room-kept i w room = omega (arith, right-room i w size room)

  pub right-hours-kept : (f w : ℕ) → f + w ≤ 2 * size → f + w / 2 + w / 2 ≤ 2 * size₁
  right-hours-kept f w hours = omega arith

  pub both-places-kept : (i w size₂ : ℕ) → size₂ ≡ size₁ → (i + 1) * (w / 2) ≤ size → 4 ≤ w → 2 * i + 2 ≤ size₂
  both-places-kept i w size₂ again room wide = omega (arith, both-places i w size room wide)

pub ruleset kept = (right-room-kept, right-hours-kept, both-places-kept)

pub ruleset halved = (
  left-room,
  right-room,
  both-places,
  low-place,
  high-place,
  left-number-small,
  left-number-fits,
  right-number-fits,
  low-place-fits,
  high-place-fits,
  half-falls,
  half-of-four,
  pair-hours,
  two-pairs-hours,
  left-hours,
  right-hours,
  middle-fits,
)
