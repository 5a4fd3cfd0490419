-- Nodes as the code carries them, and what it tests of them. Cited by the contracts of this crate and of
-- those that go down a table. Assumes nothing.
--
--   reached_of l t v          node v of a table t of l levels, as the code carries it
--   At l t v at              `at` is that node
--   LentTo stop l cs ks      of a table of l levels is lent what nodes of more than `stop` hours need to be opened
--   Below stop cs ks at      it is a node of such a table, and its range is one of readings
--   is_pair_of w               a node of w hours, two or more, is a pair
--   left_reached at r         its left half, which has the range r; right_reached at r, its right half
--   touches_of x at           it has a reading and shares an hour with the column x
--   inside_of x at            it lies wholly inside the column
--   opened_of x stop at       it is opened, where nodes of the depth cover `stop` hours
--   StopsAt l d x stop       the depth is d, whose nodes cover `stop` hours, and the column x has an hour
use Rattle.std.specs.Prelude.{◌≡◌, Bool, not, ◌&&◌, List, ℕ, suc, ◌+◌, ◌-◌, ◌*◌, ◌/◌, ◌^◌, ◌≤◌, ◌<◌, leb, ltb, ℤ}
use Rattle.std.specs.Prelude.{Option, length}
use Rattle.words.specs.Constants.{largest_level}
use Rattle.words.specs.declared.Column.{Column}
use Rattle.words.specs.declared.Range.{Range}
use Rattle.words.specs.Bounds.{Readings}
use Rattle.om3.specs.Series.{hour}
use Rattle.om3.specs.Nodes.{Node, number, width, first_hour}
use Rattle.om3.specs.Ranges.{is_empty}
use Rattle.om3.specs.Table.{Table}
use Rattle.om3.specs.Down.{reached}
use Rattle.node.specs.Located.{Located}
use Rattle.stepping.specs.declared.Reached.{Reached}

-- Node v as the code carries it: its number, its first hour, how many hours it covers, and its range.
abbrev pub reached_of : ℕ → Table → Node → Reached
reached_of l t v = record { id = number v; from = first_hour l v; hours = width l v; range = reached l t v }

-- The code is at node v of the table t.
pub record At (l : ℕ) (t : Table) (v : Node) (at : Reached) : Type 0 where
  pub located : Located l v at.id.0 at.from.0 at.hours
  pub range : at.range ≡ reached l t v

-- The root values are there; the details of level j, up to place 4·2^j − 1, if it is above the pairs and its nodes
-- cover more than `stop` hours; the codes, if pairs do. [level 1] [table 2, 3, 6]
pub record LentTo (stop l : ℕ) (cs : List ℤ) (ks : List ℕ) : Type 0 where
  pub root : 2 ≤ length cs
  pub details : (j : ℕ) → suc j < l → stop < 2 ^ (l - j) → 4 * 2 ^ j ≤ length cs
  pub codes : stop < 2 → 2 ^ l ≤ 2 * length ks

-- What a visit needs to go on from a node: it is one of a table that is not too large and is lent so far.
pub record Below (stop : ℕ) (cs : List ℤ) (ks : List ℕ) (at : Reached) : Type 0 where
  pub levels : ℕ
  pub node : Node
  pub most : levels ≤ largest_level
  pub table : LentTo stop levels cs ks
  pub located : Located levels node at.id.0 at.from.0 at.hours
  pub readings : Readings at.range

-- Pairs have two hours, and every node above them four or more. [hours 9]
abbrev pub is_pair_of : ℕ → Bool
is_pair_of w = ltb w 4

-- The left half has twice the number and the first half of the hours; the right half one more, and the second half.
abbrev pub left_reached : Reached → Option Range → Reached
left_reached at r = record { id = record { 0 = 2 * at.id.0 }; from = at.from; hours = at.hours / 2; range = r }

abbrev pub right_reached : Reached → Option Range → Reached
right_reached at r = record {
  id = record { 0 = 2 * at.id.0 + 1 };
  from = hour (at.from.0 + at.hours / 2);
  hours = at.hours / 2;
  range = r;
}

-- A node with a reading touches a column that has an hour if each begins before the other ends. [columns 6]
abbrev pub touches_of : Column → Reached → Bool
touches_of x at =
    not (is_empty at.range) && (ltb x.from.0 (at.from.0 + at.hours) && ltb at.from.0 x.upto.0)

-- It lies wholly inside if it does not begin before the column, nor end after it. [columns 6]
abbrev pub inside_of : Column → Reached → Bool
inside_of x at = leb x.from.0 at.from.0 && leb (at.from.0 + at.hours) x.upto.0

-- It is opened if it touches the column, is not wholly inside, and covers more hours than nodes of the depth do.
-- [columns 6, 7]
abbrev pub opened_of : Column → ℕ → Reached → Bool
opened_of x stop at = touches_of x at && (not (inside_of x at) && ltb stop at.hours)

-- Nodes of level d cover 2^(l−d) hours; only nodes that cover more are of a level below d. [columns 7]
pub record StopsAt (l d : ℕ) (x : Column) (stop : ℕ) : Type 0 where
  pub deep : d ≤ l
  pub stops : stop ≡ 2 ^ (l - d)
  pub some : x.from.0 < x.upto.0
