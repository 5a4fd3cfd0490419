-- Document 01, "Columns": opened and visited nodes, the count and the two ranges at a depth, of a column x in a table
-- t of l levels. Assumes nothing.
--
--   has_reading, shares, inside   a node has a reading; shares an hour with the column; lies wholly inside it
--   above v                      the node of which v is a half
--   opened d v, visited d v      a node is opened, is visited, at depth d
--   opened_nodes d                the opened nodes in the order of examination
--   count_at d                    the count at depth d; 0 for a column without an hour
--   range_over vs                 the least low and the greatest high over some nodes
--   is_outer d v, is_inner d v     a node counts for the outer, for the inner, range at depth d
--   outer d, inner d             the two ranges at depth d; an absent one is empty
--   inner_nodes d                 the nodes of the inner range, in the order of their hours
--   examine_column n vs           the examination of a column's nodes vs, in a table of n hours
--   stopped_checks                the checks of the call for a column at a depth; stopped n t a b w k d, what it
--                                 answers
use Rattle.std.specs.Prelude.{Bool, cond, not, ◌&&◌, ◌||◌, List, [], ◌∷◌, ℕ, ◌+◌, ◌-◌, ◌*◌, ◌/◌, ltb, eqb, length, None}
use Rattle.std.specs.Prelude.{Option, Err, Result}
use Rattle.words.specs.declared.Refusal.{Refusal}
use Rattle.words.specs.Said.{stopped_as}
use Rattle.words.specs.declared.Range.{Range}
use Rattle.words.specs.declared.Stopped.{Stopped}
use Rattle.words.specs.declared.Column.{Column}
use Rattle.om3.specs.Lists.{any, every, keep}
use Rattle.om3.specs.Series.{levels}
use Rattle.om3.specs.Nodes.{Node, hours}
use Rattle.om3.specs.Ranges.{is_empty, both}
use Rattle.om3.specs.Table.{Table}
use Rattle.om3.specs.Down.{reached}
use Rattle.om3.specs.Checks.{Check, passes, in_order, answer_by}
use Rattle.om3.specs.Sound.{all_nodes, examine}
use Rattle.om3.specs.Refusals.{check_hours, check_room, table_short, check_window, check_column, check_depth}
use Rattle.om3.specs.Columns.{column, in_column, no_hour}

-- The node above: v is one of its halves.
abbrev pub above : Node → Node
above v = record { level = v.level - 1; index = v.index / 2 }

-- A node has a reading if what is reached there is not empty.
abbrev pub has_reading : ℕ → Table → Node → Bool
has_reading l t v = not (is_empty (reached l t v))

-- It shares an hour with the column; it lies wholly inside it. With a column without an hour none does, so that such a
-- column has no range and no reading. [columns 5]
unfoldable pub shares : ℕ → Column → Node → Bool
shares l x v = any (in_column x) (hours l v)

unfoldable pub inside : ℕ → Column → Node → Bool
inside l x v = every (in_column x) (hours l v)

module _ (l : ℕ) (t : Table) where
  -- The least low and the greatest high over the nodes of a list; over no node it is absent. [columns 12]
  unfoldable pub range_over : List Node → Option Range
  range_over [] = None
  range_over (v ∷ vs) = both (reached l t v) (range_over vs)

module _ (l : ℕ) (t : Table) (x : Column) where
  -- A node is opened if it has a reading, shares an hour with the column and is not wholly inside it; at depth d only a
  -- node of level below d. [columns 6, 7]
  -- Deviation: document 004 prunes nodes whose range is covered already; we prune none, since counts, first and last
  -- would change.
  -- Deviation: it takes the hours of a pair that two columns share into neither's range; we open pairs, so that low and
  -- high are exact.
  unfoldable pub opened : ℕ → Node → Bool
  opened d v = has_reading l t v && shares l x v && not (inside l x v) && ltb v.level d

  abbrev pub opened_nodes : ℕ → List Node
  opened_nodes d = keep (opened d) (all_nodes l)

  -- Visited nodes: node 1 and both halves of every opened node. [columns 8]
  -- Deviation: document 004 starts at the level that has w nodes or more; we start at node 1, so that each depth has an
  -- answer.
  unfoldable pub visited : ℕ → Node → Bool
  visited d v = eqb v.level 0 || opened d (above v)

  -- The count is 1 + 2·(opened); a column without an hour has count 0. [columns 5, 9]
  unfoldable pub count_at : ℕ → ℕ
  count_at d = cond (no_hour x) 0 (1 + 2 * length (opened_nodes d))

  -- Outer range: over visited, unopened, non-empty nodes that share an hour with the column. [columns 10]
  -- Deviation: document 004 has no such range: it shows after each level what the nodes inside give, our inner range.
  abbrev pub is_outer : ℕ → Node → Bool
  is_outer d v = visited d v && not (opened d v) && has_reading l t v && shares l x v

  unfoldable pub outer : ℕ → Option Range
  outer d = range_over l t (keep (is_outer d) (all_nodes l))

  -- Inner: the same over those wholly inside. From left to right these nodes are in the order of their hours.
  -- [columns 11]
  abbrev pub is_inner : ℕ → Node → Bool
  is_inner d v = is_outer d v && inside l x v

  unfoldable pub inner_nodes : ℕ → List Node
  inner_nodes d = keep (is_inner d) (all_nodes l)

  abbrev pub inner : ℕ → Option Range
  inner d = range_over l t (inner_nodes d)

  -- Node 0, then these nodes in their order; for a column without an hour the table is not examined. Only these are
  -- examined: an unsound node elsewhere refuses nothing, and the answer is by the same rules. [columns 5, 16, 18]
  abbrev pub examine_column : (n : ℕ) → List Node → Check
  examine_column n vs = cond (no_hour x) passes (examine l n t vs)

-- Column k of [a, b) in w columns, stopped at depth d.
module _ (n : ℕ) (t : Table) (a b w k d : ℕ) where
  -- Columns: 1, 3, 5, 6, 7, 4; opened nodes are examined. [refusals 17] [columns 16]
  abbrev pub stopped_checks : List Check
  stopped_checks =
      let l = levels n in
      let x = column a b w k in
      check_hours n
      ∷ check_room (table_short n t)
      ∷ check_window n a b
      ∷ check_column w k
      ∷ check_depth n d
      ∷ examine_column l t x n (opened_nodes l t x d)
      ∷ []

  -- The two ranges and the count at this depth. [columns 9, 10, 11]
  unfoldable pub stopped : Result Stopped Refusal
  stopped =
      let l = levels n in
      let x = column a b w k in
      answer_by Err (in_order stopped_checks)
      (stopped_as (outer l t x d) (inner l t x d) (count_at l t x d))
