-- What a node of eight hours or more has to show of its halves: what they cover, and that their numbers fit. Assumes
-- nothing.
use Rattle.kit.proofs.{List, ℕ, ◌+◌, ◌*◌, ◌/◌, ◌^◌, ◌≤◌, ◌<◌, arith, ℤ, w64, Fits}
use Rattle.kit.proofs.{Option, Result}
use Rattle.words.specs.declared.{NodeId.NodeId, Range.Range}
use Rattle.node.proofs.{Rooms.halved, Rooms.both-places}
use Rattle.examining.specs.Examining.{Examined, FourExamined}

module _ (w : ℕ) where
  pub eight-two : 8 ≤ w → 2 ≤ w
  eight-two h = omega arith

  pub eight-four : 8 ≤ w → 4 ≤ w
  eight-four h = omega arith

  pub half-of-eight : 8 ≤ w → 4 ≤ w / 2
  half-of-eight h = omega arith

  pub half-of-sixteen : 16 ≤ w → 8 ≤ w / 2
  half-of-sixteen h = omega arith

  pub half-under-eight : w < 16 → w / 2 < 8
  half-under-eight h = omega arith

  module _ (i size : ℕ) (room : (i + 1) * (w / 2) ≤ size) (wide : 8 ≤ w) (few : size < 2 ^ 63) where
    pub left-fits : Fits w64 (2 * i)
    left-fits = omega (arith, both-places i w size room (omega arith))

    pub right-fits : Fits w64 (2 * i + 1)
    right-fits = omega (arith, both-places i w size room (omega arith))

pub as-four : (n : ℕ) (cs : List ℤ) (ks : List ℕ) (i : NodeId) (f w : ℕ) (range : Option Range) (r : Result Unit NodeId)
    → FourExamined n cs ks i f range r → 4 ≤ w → w < 8 → Examined n cs ks i f w range r
as-four n cs ks i f w range r E wide eight = E.four w wide eight

pub ruleset eight = (
  halved,
  eight-two,
  eight-four,
  half-of-eight,
  half-of-sixteen,
  half-under-eight,
  left-fits,
  right-fits,
  as-four,
)
