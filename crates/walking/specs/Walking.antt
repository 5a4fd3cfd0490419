-- What the walk to the first or to the last reading promises. Cited by the contracts of this crate and of the
-- columns. Assumes nothing.
--
--   takes_left       whether the walk takes the left of two halves with these ranges
--   towards l t w   the half that it takes at a node
--   walked_as reading levels    a walk that has come to this reading, so many levels down
--   walk_check r     what a walk says, as a check
--   Small z         z is from −1,000,000 to 2,000,003: readings and the gap mark are
--   Walks           what a walk says of node v
--   WalkedFrom      the contract of the walk from a node, c levels below where it began
use Rattle.std.specs.Prelude.{◌≡◌, Bool, not, List, ℕ, ◌+◌, ◌-◌, ◌≤◌, ℤ, pos, neg_ℤ, ◌≤ℤ◌, Option, Result, Ok, Err}
use Rattle.words.specs.declared.NodeId.{NodeId}
use Rattle.words.specs.Constants.{largest_reading, gap}
use Rattle.words.specs.declared.Range.{Range}
use Rattle.words.specs.declared.Reading.{Reading}
use Rattle.words.specs.declared.Refusal.TheVariants as refusal
use Rattle.om3.specs.Nodes.{Node}
use Rattle.om3.specs.Ranges.{is_empty}
use Rattle.om3.specs.Table.{Table, lent}
use Rattle.om3.specs.Checks.{Check, passes, refuses}
use Rattle.om3.specs.Sound.{examine_nodes}
use Rattle.om3.specs.Finished.{walk_nodes, walk_end, towards_first, towards_last, reading_at}
use Rattle.stepping.specs.Nodes.{At}
use Rattle.stepping.specs.declared.Reached.{Reached}
use Rattle.walking.specs.declared.Towards.{Towards}
use Rattle.walking.specs.declared.Walked.{Walked}

-- To the first the left half if it has a reading, else the right; to the last the other way round. [columns 17]
abbrev pub takes_left : Towards → Option Range → Option Range → Bool
takes_left Towards.First left right = not (is_empty left)
takes_left Towards.Last left right = is_empty right

-- The half that it takes at a node. [columns 17]
abbrev pub towards : ℕ → Table → Towards → Node → Node
towards l t Towards.First = towards_first l t
towards l t Towards.Last = towards_last l t

-- What a walk answers that has come to its reading.
abbrev pub walked_as : (reading : Reading) (levels : ℕ) → Result Walked NodeId
walked_as reading levels = Ok (record { reading = reading; levels = levels })

-- A walk comes to its reading exactly if the nodes on its way are sound. [refusals 4]
abbrev pub walk_check : Result Walked NodeId → Check
walk_check (Err i) = refuses (refusal.Unsound i)
walk_check (Ok walk) = passes

-- From node v it goes l minus its level down, through the nodes of the walk, to the reading at its end.
-- [columns 15, 16, 17]
pub record Walks (l n : ℕ) (t : Table) (w : Towards) (c : ℕ) (v : Node) (r : Result Walked NodeId) : Type 0 where
  pub examined : walk_check r ≡ examine_nodes l n t (walk_nodes (towards l t w) (l - v.level) v)
  pub ends : (reading : Reading) (levels : ℕ) → r ≡ walked_as reading levels
      → reading ≡ reading_at l t (walk_end (towards l t w) (l - v.level) v)
  pub counted : (reading : Reading) (levels : ℕ) → r ≡ walked_as reading levels → levels ≡ c + (l - v.level)

-- Far from the ends of 32 bits.
abbrev pub Small : ℤ → Type 0
Small z = (neg_ℤ (pos largest_reading) ≤ℤ z) × (z ≤ℤ gap)

-- It goes down no more levels than the node covers hours, less one.
pub record WalkedFrom (n : ℕ) (cs : List ℤ) (ks : List ℕ) (w : Towards) (c : ℕ) (at : Reached)
    (r : Result Walked NodeId) : Type 0 where
  pub few : (reading : Reading) (levels : ℕ) → r ≡ walked_as reading levels → levels + 1 ≤ c + at.hours
  pub small : (reading : Reading) (levels : ℕ) → r ≡ walked_as reading levels → Small reading.grams
  pub walks : (l : ℕ) (v : Node) → At l (lent cs ks) v at → Walks l n (lent cs ks) w c v r
