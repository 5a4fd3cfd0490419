-- What a step down promises. Cited by its contract. Assumes nothing.
--
--   halves_at l n t v   the halves of node v if it is sound; SteppedDown, what a step from there answers
--   Steps              what a step needs of a node, whatever its hours; SteppedFrom, its contract
use Rattle.std.specs.Prelude.{◌≡◌, Bool, true, false, cond, List, ℕ, ◌+◌, ◌*◌, ◌≤◌, ℤ, length, None, Option}
use Rattle.node.specs.Steps.{halves_as}
use Rattle.words.specs.declared.{NodeId.NodeId, Timestamp.Timestamp, Range.Range}
use Rattle.words.specs.{Readings}
use Rattle.om3.specs.Document.{Node, left, right, Table, lent, reached, sound_node}
use Rattle.node.specs.declared.Halves.{Halves}
use Rattle.stepping.specs.Nodes.{At, is_pair_of}
use Rattle.stepping.specs.declared.Reached.{Reached}

-- A sound node's halves have the ranges reached there.
abbrev pub halves_at : (l n : ℕ) → Table → Node → Option Halves
halves_at l n t v =
    cond (sound_node l n t v) (halves_as (reached l t (left v)) (reached l t (right v))) None

-- A step down answers them, ranges of readings, or that the node is unsound.
pub record SteppedDown (n : ℕ) (cs : List ℤ) (ks : List ℕ) (at : Reached) (r : Option Halves) : Type 0 where
  pub halves : (l : ℕ) (v : Node) → At l (lent cs ks) v at → r ≡ halves_at l n (lent cs ks) v
  pub readings : (a b : Option Range) → r ≡ halves_as a b → Readings a × Readings b

-- It needs a range of readings, and the code of a pair or the details of another node in the buffers.
pub record Steps (cs : List ℤ) (ks : List ℕ) (i : NodeId) (h : Timestamp) (pair : Bool) (range : Option Range)
    : Type 0 where
  pub readings : Readings range
  pub code : pair ≡ true → h.0 + 2 ≤ 2 * length ks
  pub details : pair ≡ false → 2 * i.0 + 2 ≤ length cs

-- It answers for every node of two hours or more that has these parts.
abbrev pub SteppedFrom : ℕ → List ℤ → List ℕ → NodeId → Timestamp → Bool → Option Range → Option Halves → Type 0
SteppedFrom n cs ks i h pair range r =
    (w : ℕ) → 2 ≤ w → pair ≡ is_pair_of w
    → SteppedDown n cs ks (record { id = i; from = h; hours = w; range = range }) r
