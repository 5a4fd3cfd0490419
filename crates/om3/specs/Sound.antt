-- Document 01, "A sound node". Assumes nothing.
--
--   sound_root_values         whether the root values, low and high, called node 0, are sound
--   is_detail z              whether z is a detail; both_are mark, whether two details are both this mark
--   ordered r               whether low ≤ high in a range
--   sound_details r          whether a node that is not a pair is sound, with its range and its two details
--   sound_code r c           whether the code of a pair fits its range
--   gap_from n h r           whether hour h may come out as r: from hour n on as a gap
--   sound_node l n t v       whether node v of a table of n hours and l levels is sound; sound_pair, if it is a pair
--   nodes_below c v          node v and the nodes below it, c levels in all, in the order of examination
--   table_nodes l            all nodes of a table, pairs the last level; all_nodes l has the single hours too
--   sound_table l n t        whether a table is sound
--   examine_node i is_sound   the examination of node i; examine_root t, of node 0
--   examine_nodes l n t vs   the examination of a list of nodes; examine, of node 0 and then of the list
use Rattle.std.specs.Prelude.{Bool, true, cond, not, ◌&&◌, ◌||◌, List, [], ◌∷◌, ◌++◌, map, ℕ, zero, suc, ltb, eqb, ℤ}
use Rattle.std.specs.Prelude.{None, Option, Some, pos, neg_ℤ}
use Rattle.std.specs.Int.Signed.{le_z, lt_z}
use Rattle.signed.specs.{is_number, eq_z}
use Rattle.words.specs.{largest_detail, left_mark, right_mark, gap_mark}
use Rattle.words.specs.declared.{Timestamp.Timestamp, NodeId.NodeId, Range.Range, Refusal.TheVariants.Unsound}
use Rattle.om3.specs.{Lists.every, Series.is_reading, Series.is_gap, Ranges.is_empty, Table.Table}
use Rattle.om3.specs.Down.{high_detail_at, code_at, reached, left_half, right_half, first_of_pair, second_of_pair}
use Rattle.om3.specs.Down.{coefficient_at, low_detail_at}
use Rattle.om3.specs.Checks.{Check, refuse_if, and_then, in_order}
use Rattle.om3.specs.Nodes.{Node, number, root, left, right, is_pair, first_hour}

-- Both 2,000,003, or both readings with low ≤ high. [sound 1]
abbrev pub sound_root_values : ℤ → ℤ → Bool
sound_root_values low high = (is_gap low && is_gap high) || (is_reading low && is_reading high && le_z low high)

-- A detail is from −2,000,000 to 2,000,000. [sound 3]
abbrev pub is_detail : ℤ → Bool
is_detail z = le_z (neg_ℤ (pos largest_detail)) z && le_z z (pos largest_detail)

-- Low ≤ high; an empty range has neither.
abbrev pub ordered : Option Range → Bool
ordered None = true
ordered (Some r) = le_z r.low r.high

abbrev pub both_are : (mark : ℕ) → ℤ → ℤ → Bool
both_are mark low_detail high_detail = is_number mark low_detail && is_number mark high_detail

-- A node that is not a pair, with its range and its details: if empty, both are 2,000,003; otherwise both are
-- 2,000,001, or both 2,000,002, or both are details and each half reached by going down has low ≤ high. [sound 2, 3]
abbrev pub sound_details : Option Range → ℤ → ℤ → Bool
sound_details None low_detail high_detail = both_are gap_mark low_detail high_detail
sound_details (Some r) low_detail high_detail =
    both_are left_mark low_detail high_detail
    || both_are right_mark low_detail high_detail
    || (is_detail low_detail && is_detail high_detail
    && ordered (left_half (Some r) low_detail high_detail)
    && ordered (right_half (Some r) low_detail high_detail))

-- A pair, with its range and its code: if empty, 4; otherwise 0, or 1 with low < high, or 2 or 3 with low = high.
-- [sound 4]
abbrev pub sound_code : Option Range → ℕ → Bool
sound_code None c = eqb c 4
sound_code (Some r) c = eqb c 0 || (eqb c 1 && lt_z r.low r.high) || ((eqb c 2 || eqb c 3) && eq_z r.low r.high)

-- An hour from n on comes out as a gap. [sound 4]
abbrev pub gap_from : ℕ → Timestamp → Option Range → Bool
gap_from n h r = ltb h.0 n || is_empty r

module _ (l n : ℕ) (t : Table) where
  -- A pair: its code fits its range, and hours from n on come out as gaps. [sound 4]
  abbrev pub sound_pair : Node → Bool
  sound_pair v =
      sound_code (reached l t v) (code_at l t (number v))
      && gap_from n (first_hour l (left v)) (first_of_pair (reached l t v) (code_at l t (number v)))
      && gap_from n (first_hour l (right v)) (second_of_pair (reached l t v) (code_at l t (number v)))

  -- A pair is sound by its code and its hours, any other node by its details. [sound 2, 3, 4]
  -- Deviation: document 004 trusts its coefficients; we examine them, since a record may come damaged.
  unfoldable pub sound_node : Node → Bool
  sound_node v =
      cond (is_pair l v) (sound_pair v)
      (sound_details (reached l t v) (low_detail_at t (number v)) (high_detail_at t (number v)))

-- Each node before its halves, left before right, with all below the left half before the right half. [sound 6]
-- Deviation: document 004 goes breadth first, over all columns at once; we go depth first, over one, since document 01
-- tells the place of refusal 4 so.
unfoldable pub nodes_below : ℕ → Node → List Node
nodes_below zero v = []
nodes_below (suc c) v = v ∷ nodes_below c (left v) ++ nodes_below c (right v)

-- Levels 0 to l − 1. [hours 6]
abbrev pub table_nodes : ℕ → List Node
table_nodes l = nodes_below l root

-- Levels 0 to l: the single hours are counted as nodes too. [hours 9]
abbrev pub all_nodes : ℕ → List Node
all_nodes l = nodes_below (suc l) root

-- A table is sound if all its nodes are, node 0 too. [sound 5]
unfoldable pub sound_table : ℕ → ℕ → Table → Bool
sound_table l n t = sound_root_values (coefficient_at t 0) (coefficient_at t 1)
    && every (sound_node l n t) (table_nodes l)

-- An examined node is unsound: its number is the place of refusal 4. [refusals 4] [sound 6]
abbrev pub examine_node : NodeId → Bool → Check
examine_node i is_sound = refuse_if (not is_sound) (Unsound i)

-- The root values, called node 0. [sound 1]
abbrev pub examine_root : Table → Check
examine_root t = examine_node (record { 0 = 0 }) (sound_root_values (coefficient_at t 0) (coefficient_at t 1))

-- The nodes of a list, in its order: the first unsound one decides.
abbrev pub examine_nodes : (l n : ℕ) → Table → List Node → Check
examine_nodes l n t vs = in_order (map (λ v. examine_node (number v) (sound_node l n t v)) vs)

-- Node 0, then the nodes of a list. [sound 1, 6]
unfoldable pub examine : (l n : ℕ) → Table → List Node → Check
examine l n t vs = and_then (examine_root t) (examine_nodes l n t vs)
