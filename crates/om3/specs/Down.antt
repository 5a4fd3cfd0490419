-- Document 01, "The table": going down, from node 1 to the hours, in a table of l levels. Assumes nothing.
--
--   left_low, right_low             lows of the halves of a node with a low and a low detail
--   left_high, right_high           highs of the halves of a node with a high and a high detail
--   left_half, right_half           ranges of the halves of a node with a range and two details, marks included
--   first_of_pair, second_of_pair     ranges of the two hours of a pair with a range and a code
--   coefficient_at t p             the coefficient at place p; code_at, low_detail_at, high_detail_at by a node's
--                                  number
--   root_range low high            the range that the root values give node 1
--   left_of l t v r, right_of       from the range r of node v to those of its halves, in the table t
--   reached l t v                 the range reached at node v; reached_at l t j k, at node k of level j
--   turned_back l t n              what the n hours come out as
use Rattle.std.specs.Prelude.{cond, List, map, ℕ, zero, suc, ◌+◌, ◌-◌, ◌*◌, ◌/◌, ◌%◌, ◌^◌, eqb, ℤ, pos, ◌+ℤ◌, ◌-ℤ◌}
use Rattle.std.specs.Prelude.{None, Option, Some, get_or}
use Rattle.words.specs.Said.{held, low_of}
use Rattle.std.specs.Int.Signed.{le_z}
use Rattle.signed.specs.Choice.{is_number}
use Rattle.words.specs.Constants.{left_mark, right_mark}
use Rattle.words.specs.declared.NodeId.{NodeId}
use Rattle.words.specs.declared.Range.{Range}
use Rattle.om3.specs.Lists.{up_from}
use Rattle.om3.specs.Series.{is_gap}
use Rattle.om3.specs.Nodes.{Node, number, is_pair}
use Rattle.om3.specs.Table.{Table}

-- If D ≤ 0 the left low is A and the right low A − D; else the right low is A and the left low A + D. [table 10]
-- Deviation: document 004's equation (3) prints A − D for the left low; only A + D undoes its equation (1).
-- Deviation: it tests D < 0; we test D ≤ 0, as document 01 does, and at 0 both give the same.
abbrev pub left_low : ℤ → ℤ → ℤ
left_low low low_detail = cond (le_z low_detail (pos 0)) low (low +ℤ low_detail)

abbrev pub right_low : ℤ → ℤ → ℤ
right_low low low_detail = cond (le_z low_detail (pos 0)) (low -ℤ low_detail) low

-- If D ≥ 0 the left high is A and the right high A − D; else the right high is A and the left high A + D. [table 11]
-- Deviation: document 004 prints no equation for the highs; this undoes its equation (2).
abbrev pub left_high : ℤ → ℤ → ℤ
left_high high high_detail = cond (le_z (pos 0) high_detail) high (high +ℤ high_detail)

abbrev pub right_high : ℤ → ℤ → ℤ
right_high high high_detail = cond (le_z (pos 0) high_detail) (high -ℤ high_detail) high

-- The left half takes the whole range at the mark of the left, is empty at that of the right, and else goes down by the
-- two details. Halves of an empty node are empty. [table 5, 10, 11]
abbrev pub left_half : Option Range → ℤ → ℤ → Option Range
left_half None low_detail high_detail = None
left_half (Some r) low_detail high_detail =
    cond (is_number left_mark low_detail) (Some r)
    (cond (is_number right_mark low_detail) None
    (held (left_low r.low low_detail) (left_high r.high high_detail)))

abbrev pub right_half : Option Range → ℤ → ℤ → Option Range
right_half None low_detail high_detail = None
right_half (Some r) low_detail high_detail =
    cond (is_number right_mark low_detail) (Some r)
    (cond (is_number left_mark low_detail) None
    (held (right_low r.low low_detail) (right_high r.high high_detail)))

-- The first hour of a pair is the high at code 0 and the low at codes 1 and 2; at any other code it is a gap. [table 6]
abbrev pub first_of_pair : Option Range → ℕ → Option Range
first_of_pair None c = None
first_of_pair (Some r) c =
    cond (eqb c 0) (held r.high r.high)
    (cond (eqb c 1) (held r.low r.low)
    (cond (eqb c 2) (held r.low r.low)
    None))

-- The second hour is the low at codes 0 and 3 and the high at code 1; at any other code it is a gap. [table 6]
abbrev pub second_of_pair : Option Range → ℕ → Option Range
second_of_pair None c = None
second_of_pair (Some r) c =
    cond (eqb c 0) (held r.low r.low)
    (cond (eqb c 1) (held r.high r.high)
    (cond (eqb c 3) (held r.low r.low)
    None))

-- The coefficient at a place; past the end 0, on which no answer rests, since check 3 comes first.
abbrev pub coefficient_at : Table → ℕ → ℤ
coefficient_at t p = get_or t.coefficients p (pos 0)

-- The details of node i stand at places 2i and 2i + 1. [table 3]
abbrev pub low_detail_at : Table → NodeId → ℤ
low_detail_at t i = coefficient_at t (2 * i.0)

abbrev pub high_detail_at : Table → NodeId → ℤ
high_detail_at t i = coefficient_at t (2 * i.0 + 1)

-- The code of pair i stands at place i − P/2. Past the end it reads 0 as well. [table 6]
abbrev pub code_at : ℕ → Table → NodeId → ℕ
code_at l t i = get_or t.codes (i.0 - 2 ^ l / 2) 0

-- Node 1 is empty if its low is the mark, and else has the low and the high of places 0 and 1. [table 2]
abbrev pub root_range : ℤ → ℤ → Option Range
root_range low high = cond (is_gap low) None (held low high)

module _ (l : ℕ) (t : Table) where
  -- From the range of node v to those of its halves.
  abbrev pub left_of : Node → Option Range → Option Range
  left_of v r =
      cond (is_pair l v)
      (first_of_pair r (code_at l t (number v)))
      (left_half r (low_detail_at t (number v)) (high_detail_at t (number v)))

  abbrev pub right_of : Node → Option Range → Option Range
  right_of v r =
      cond (is_pair l v)
      (second_of_pair r (code_at l t (number v)))
      (right_half r (low_detail_at t (number v)) (high_detail_at t (number v)))

  -- The range reached at node k of level j: a left half if k is even, else a right half, of node k/2 of the level
  -- above.
  unfoldable pub reached_at : ℕ → ℕ → Option Range
  reached_at zero k = root_range (coefficient_at t 0) (coefficient_at t 1)
  reached_at (suc j) k =
      cond (eqb (k % 2) 0)
      (left_of (record { level = j; index = k / 2 }) (reached_at j (k / 2)))
      (right_of (record { level = j; index = k / 2 }) (reached_at j (k / 2)))

  abbrev pub reached : Node → Option Range
  reached v = reached_at v.level v.index

  -- Hour k is node k of level l; an empty one is a gap. [hours 9]
  unfoldable pub turned_back : ℕ → List ℤ
  turned_back n = map (λ k. low_of (reached_at l k)) (up_from 0 n)
