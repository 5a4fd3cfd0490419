-- What turning back promises. Cited by the contracts of this crate and of the boundary. Assumes nothing.
--
--   with_hours             a buffer with the hours below a node written
--   Written               the contract of writing the hours below a node; PairWritten, of a pair's
--   TurnedBack            the contract of `turn_back`: its answer, and the lent hours whole
use Rattle.std.specs.Prelude.{◌≡◌, true, List, ℕ, zero, suc, ◌-◌, ◌≤◌, ◌<◌, ℤ, length, set, Option, Result}
use Rattle.words.specs.declared.Refusal.{Refusal}
use Rattle.words.specs.Said.{low_of}
use Rattle.words.specs.declared.Range.{Range}
use Rattle.om3.specs.Lists.{every}
use Rattle.om3.specs.Series.{levels}
use Rattle.om3.specs.Nodes.{Node, left, right}
use Rattle.om3.specs.Table.{Table, lent}
use Rattle.om3.specs.Down.{reached, turned_back}
use Rattle.om3.specs.Checks.{in_order}
use Rattle.om3.specs.Sound.{sound_node, nodes_below}
use Rattle.om3.specs.Calls.{turning_back_checks, turning_back, written_by}
use Rattle.node.specs.Located.{Located}

-- The hours out with those of the single hours below node v, c levels down, as the table t gives them.
unfoldable pub with_hours : (l : ℕ) → Table → ℕ → Node → List ℤ → List ℤ
with_hours l t zero v out = set out v.index (low_of (reached l t v))
with_hours l t (suc c) v out = with_hours l t c (right v) (with_hours l t c (left v) out)

-- Below a node all of whose nodes are sound, in a series of some n hours.
pub record Written (cs : List ℤ) (ks : List ℕ) (i f w : ℕ) (range : Option Range) (out out' : List ℤ) : Type 0 where
  pub below : (l n : ℕ) (v : Node) → Located l v i f w → range ≡ reached l (lent cs ks) v
      → every (sound_node l n (lent cs ks)) (nodes_below (l - v.level) v) ≡ true
      → out' ≡ with_hours l (lent cs ks) (l - v.level) v out

-- A pair alone, whatever its number and the coefficients are.
pub record PairWritten (ks : List ℕ) (f : ℕ) (range : Option Range) (out out' : List ℤ) : Type 0 where
  pub pair : (cs : List ℤ) (i w : ℕ) → 2 ≤ w → w < 4 → Written cs ks i f w range out out'

-- The table of n hours in lent coefficients cs and codes ks becomes n hours in the lent buffer out.
-- [refusals 14, 15, 16, 17] [statements 1]
pub record TurnedBack (n : ℕ) (cs : List ℤ) (ks : List ℕ) (out out' : List ℤ) (r : Result Unit Refusal) : Type 0 where
  pub answer : r ≡ turning_back n (lent cs ks) (length out)
  pub hours : out'
      ≡ written_by (in_order (turning_back_checks n (lent cs ks) (length out)))
      (turned_back (levels n) (lent cs ks) n) out
