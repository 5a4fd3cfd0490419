-- What is seen at the nodes of a column. Cited by the contracts of this crate and by what the visit promises. Assumes
-- nothing.
--
--   inner_as range first last  the nodes of an inner range by their range, their first and their last
--   unopened_of x c at        what is seen at a node that is not opened, with c nodes opened before
--   both_inner, both_seen      what is seen in the left half and then in the right half
--   InnerBelow stop cs ks i  the first and the last node of an inner range are nodes of a table that is lent so far
--   inner_over l t vs         the nodes vs of an inner range, as the code carries them
--   seen_of l t x d c v       what is seen at node v and below it, at depth d, with c nodes opened before
--   table_seen l t x d        what is seen in the whole table
use Rattle.std.specs.Prelude.{cond, ◌&&◌, List, [], ◌∷◌, ℕ, suc, ◌+◌, ◌-◌, ℤ, length, Option, None, Some}
use Rattle.words.specs.declared.{Column.Column, Range.Range}
use Rattle.om3.specs.Lists.{keep, last_of}
use Rattle.om3.specs.Nodes.{Node}
use Rattle.om3.specs.Ranges.{both}
use Rattle.om3.specs.Table.{Table}
use Rattle.om3.specs.Sound.{nodes_below}
use Rattle.om3.specs.Stopped.{opened, opened_nodes, range_over, is_outer, outer, is_inner, inner_nodes}
use Rattle.stepping.specs.Nodes.{reached_of, Below, touches_of, inside_of}
use Rattle.stepping.specs.declared.Reached.{Reached}
use Rattle.sight.specs.declared.Inner.{Inner}
use Rattle.sight.specs.declared.Seen.{Seen}

-- Nodes of an inner range, by their parts; where there is no node, it is `None`.
abbrev pub inner_as : (range : Option Range) (first last : Reached) → Option Inner
inner_as range first last = Some (record { range = range; first = first; last = last })

-- A node that is not opened is one of the outer range if it touches the column, and of the inner one if it lies inside.
-- [columns 10, 11]
abbrev pub unopened_of : Column → ℕ → Reached → Seen
unopened_of x c at = record {
  outer = cond (touches_of x at) at.range None;
  inner = cond (touches_of x at && inside_of x at) (inner_as at.range at at) None;
  opened = c;
}

-- The inner nodes of the left half and then those of the right half: the first of all and the last of all stay.
abbrev pub both_inner : Option Inner → Option Inner → Option Inner
both_inner None b = b
both_inner (Some met) None = Some met
both_inner (Some met) (Some met') = inner_as (both met.range met'.range) met.first met'.last

-- What is seen in the left half and then in the right half, which goes on counting.
abbrev pub both_seen : Seen → Seen → Seen
both_seen a b = record {
  outer = both a.outer b.outer;
  inner = both_inner a.inner b.inner;
  opened = b.opened;
}

-- The first and the last inner node are nodes of a table that is lent so far.
abbrev pub InnerBelow : ℕ → List ℤ → List ℕ → Option Inner → Type 0
InnerBelow stop cs ks None = Unit
InnerBelow stop cs ks (Some met) = Below stop cs ks met.first × Below stop cs ks met.last

-- The nodes of an inner range: the range over them, the first and the last.
abbrev pub inner_over : ℕ → Table → List Node → Option Inner
inner_over l t [] = None
inner_over l t (v ∷ vs) = inner_as (range_over l t (v ∷ vs)) (reached_of l t v) (reached_of l t (last_of v vs))

module _ (l : ℕ) (t : Table) (x : Column) where
  -- At node v and below it, at depth d: the outer range, the inner nodes, and the opened nodes beside the c before.
  -- [columns 8, 10, 11]
  abbrev pub seen_of : (d c : ℕ) → Node → Seen
  seen_of d c v =
      let vs = nodes_below (suc (l - v.level)) v in
      record {
        outer = range_over l t (keep (is_outer l t x d) vs);
        inner = inner_over l t (keep (is_inner l t x d) vs);
        opened = c + length (keep (opened l t x d) vs);
      }

  -- In the whole table. [columns 10, 11]
  abbrev pub table_seen : ℕ → Seen
  table_seen d = record {
    outer = outer l t x d;
    inner = inner_over l t (inner_nodes l t x d);
    opened = length (opened_nodes l t x d);
  }
