-- Document 01, "Readings, hours, nodes": levels, nodes, their halves and the hours they cover, of a table of l levels.
-- Assumes nothing.
--
--   Node             node k of level j; single hours are the nodes of level l; InTree, one that a table has
--   number v         its number, 2^j + k
--   root             node 1
--   left v, right v  its halves
--   is_pair l v       whether it is a pair
--   width l v        how many hours it covers
--   start l v        the number of the first; first_hour l v, that hour
--   hours l v        the hours it covers, in order
--   level_of l i      the level of the node that has number i, for i from 1 to 2·2^l − 1
--   node_of l i       that node
use Rattle.std.specs.Prelude.{Bool, cond, List, ℕ, zero, suc, ◌+◌, ◌-◌, ◌*◌, ◌^◌, ◌≤◌, ◌<◌, leb, eqb}
use Rattle.words.specs.declared.Timestamp.{Timestamp}
use Rattle.words.specs.declared.NodeId.{NodeId}
use Rattle.om3.specs.Series.{hour, hours_from}

-- Node k of level j.
pub record Node : Type 0 where
  pub level : ℕ
  pub index : ℕ

-- It is one of a table of l levels: level j has 2^j nodes, 0 to 2^j − 1; single hours are those of level l. [hours 6]
pub record InTree (l : ℕ) (v : Node) : Type 0 where
  pub deep : v.level ≤ l
  pub among : v.index < 2 ^ v.level

-- Node k of level j has number 2^j + k. [hours 7]
abbrev pub number : Node → NodeId
number v = record { 0 = 2 ^ v.level + v.index }

-- Node 1, the one node of level 0.
abbrev pub root : Node
root = record { level = 0; index = 0 }

-- Node i has halves 2i and 2i + 1 (`number-left`, `number-right` on the page Laws), of the level below. [hours 8]
abbrev pub left : Node → Node
left v = record { level = suc v.level; index = 2 * v.index }

abbrev pub right : Node → Node
right v = record { level = suc v.level; index = 2 * v.index + 1 }

-- Nodes of level l − 1 are pairs. [hours 9]
abbrev pub is_pair : ℕ → Node → Bool
is_pair l v = eqb v.level (l - 1)

-- Node k of level j covers 2^(l−j) hours .. [hours 7]
unfoldable pub width : ℕ → Node → ℕ
width l v = 2 ^ (l - v.level)

-- .. from hour k·2^(l−j) on. [hours 7]
unfoldable pub start : ℕ → Node → ℕ
start l v = v.index * 2 ^ (l - v.level)

abbrev pub first_hour : ℕ → Node → Timestamp
first_hour l v = hour (start l v)

unfoldable pub hours : ℕ → Node → List Timestamp
hours l v = hours_from (start l v) (width l v)

-- The level of the node with number i: the greatest of 0, 1, .., l whose power of two is at most i.
unfoldable pub level_of : ℕ → NodeId → ℕ
level_of zero i = 0
level_of (suc l) i = cond (leb (2 ^ suc l) i.0) (suc l) (level_of l i)

abbrev pub node_of : ℕ → NodeId → Node
node_of l i = record { level = level_of l i; index = i.0 - 2 ^ level_of l i }
