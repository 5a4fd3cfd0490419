-- Document 01, "Columns": the finished answer of a column x in a table t of l levels. Assumes nothing.
--
--   Walk                            a walk down to a single hour: its starting node, and the half it takes at a node
--   walk_nodes half c v              the nodes of a walk of c levels from v on; walk_end, the node at its end
--   levels_of, nodes_of, end_of        how many levels a walk goes down; its nodes, from the starting node down to the
--                                   pair; the single hour at its end
--   towards_first v, towards_last v   the half that the walk to the first, and to the last, reading takes
--   first_walk v, last_walk v         the walks from node v to its first and to its last reading
--   reading_at v                     the reading of a single hour, as it is reached by going down
--   inside_nodes                     the non-empty inside visited nodes, earliest first
--   walks_from vs, answer_from vs     the walks and the answer of a column of which vs are these nodes
--   answer, count                   what a finished column says, and its count
--   finished_nodes                   the nodes that it examines
--   finished_checks                  the checks of the call for a finished column; finished n t a b w k, what it
--                                    answers
use Rattle.std.specs.Prelude.{cond, ◌&&◌, ℕ, zero, suc, ◌+◌, ◌-◌, Err, None, Option, Result, Some}
use Rattle.words.specs.declared.Refusal.{Refusal}
use Rattle.words.specs.declared.Summary.{Summary}
use Rattle.words.specs.Said.{finished_as, low_of, high_of}
use mathlib.Core.List.{List, [], ◌∷◌, ◌++◌, map, flat_map}
use Rattle.words.specs.declared.Reading.{Reading}
use Rattle.words.specs.declared.Finished.{Finished}
use Rattle.words.specs.declared.Column.{Column}
use Rattle.om3.specs.Lists.{keep, last_of, sum}
use Rattle.om3.specs.Series.{levels, hour}
use Rattle.om3.specs.Nodes.{Node, left, right}
use Rattle.om3.specs.Table.{Table}
use Rattle.om3.specs.Down.{reached}
use Rattle.om3.specs.Checks.{Check, in_order, answer_by}
use Rattle.om3.specs.Sound.{all_nodes}
use Rattle.om3.specs.Refusals.{check_hours, check_room, table_short, check_window, check_column}
use Rattle.om3.specs.Columns.{column}
use Rattle.om3.specs.Stopped.{has_reading, inside, visited, opened_nodes, count_at, range_over, examine_column}

pub record Walk : Type 0 where
  pub from : Node
  pub half : Node → Node

-- The nodes on a walk of c levels from v, v first and its end left out; its end.
unfoldable pub walk_nodes : (half : Node → Node) → ℕ → Node → List Node
walk_nodes half zero v = []
walk_nodes half (suc c) v = v ∷ walk_nodes half c (half v)

unfoldable pub walk_end : (half : Node → Node) → ℕ → Node → Node
walk_end half zero v = v
walk_end half (suc c) v = walk_end half c (half v)

-- Down to the hours: l minus the level of the starting node. [columns 15]
abbrev pub levels_of : ℕ → Walk → ℕ
levels_of l walk = l - walk.from.level

abbrev pub nodes_of : ℕ → Walk → List Node
nodes_of l walk = walk_nodes walk.half (levels_of l walk) walk.from

abbrev pub end_of : ℕ → Walk → Node
end_of l walk = walk_end walk.half (levels_of l walk) walk.from

module _ (l : ℕ) (t : Table) where
  -- To the first: the left half if it has a reading, else the right; to the last the other way round. [columns 17]
  abbrev pub towards_first : Node → Node
  towards_first v = cond (has_reading l t (left v)) (left v) (right v)

  abbrev pub towards_last : Node → Node
  towards_last v = cond (has_reading l t (right v)) (right v) (left v)

  abbrev pub first_walk : Node → Walk
  first_walk v = record { from = v; half = towards_first }

  abbrev pub last_walk : Node → Walk
  last_walk v = record { from = v; half = towards_last }

  -- The reading of a single hour: hour k is node k of level l. [hours 9]
  abbrev pub reading_at : Node → Reading
  reading_at v = record { hour = hour v.index; grams = low_of (reached l t v) }

  -- From the earliest of a column's non-empty inside visited nodes, `inside_nodes` below, the walk to the first
  -- reading, then from the latest the walk to the last; no node, no walk. [columns 15, 16]
  -- Deviation: document 004's Algorithm 1 goes into no node that lies inside a column; we walk into the earliest and
  -- the latest, since the column's first and last reading are there.
  abbrev pub walks_from : List Node → List Walk
  walks_from [] = []
  walks_from (v ∷ vs) = first_walk v ∷ last_walk (last_of v vs) ∷ []

  -- First and last reading, each with its hour, at the ends of the walks, and the low and the high of these nodes; no
  -- node, no reading. [columns 13, 14]
  -- Deviation: document 004 speaks of four M4 samples a column, but its Algorithm 1 records lowest and highest value;
  -- we answer the first and the last reading of every column too, with their hours.
  abbrev pub answer_from : List Node → Option Summary
  answer_from [] = None
  answer_from (v ∷ vs) =
      Some
      (record {
        first = reading_at (end_of l (first_walk v));
        last = reading_at (end_of l (last_walk (last_of v vs)));
        low = low_of (range_over l t (v ∷ vs));
        high = high_of (range_over l t (v ∷ vs));
      })

module _ (l : ℕ) (t : Table) (x : Column) where
  -- Non-empty inside visited nodes at depth l. From left to right they are in the order of their hours. [columns 15]
  unfoldable pub inside_nodes : List Node
  inside_nodes = keep (λ v. has_reading l t v && inside l x v && visited l t x l v) (all_nodes l)

  abbrev pub answer : Option Summary
  answer = answer_from l t inside_nodes

  -- The count of depth l, plus one node for each level walked down. [columns 15]
  abbrev pub count : ℕ
  count = count_at l t x l + sum (map (levels_of l) (walks_from l t inside_nodes))

  -- The opened nodes, then the nodes on the walks. [columns 16]
  abbrev pub finished_nodes : List Node
  finished_nodes = opened_nodes l t x l ++ flat_map (nodes_of l) (walks_from l t inside_nodes)

-- Column k of [a, b) in w columns, finished.
module _ (n : ℕ) (t : Table) (a b w k : ℕ) where
  -- Columns: 1, 3, 5, 6, 4; a finished answer has no depth, so no check 7. [refusals 17]
  abbrev pub finished_checks : List Check
  finished_checks =
      let l = levels n in
      let x = column a b w k in
      check_hours n
      ∷ check_room (table_short n t)
      ∷ check_window n a b
      ∷ check_column w k
      ∷ examine_column l t x n (finished_nodes l t x)
      ∷ []

  -- The answer with its count. [columns 13, 14]
  unfoldable pub finished : Result Finished Refusal
  finished =
      let l = levels n in
      let x = column a b w k in
      answer_by Err (in_order finished_checks) (finished_as (answer l t x) (count l t x))
