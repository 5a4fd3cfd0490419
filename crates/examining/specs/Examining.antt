-- What examining promises. Cited by the contracts of this crate and of all that examine a table. Assumes nothing.
--
--   check_of r          what a verdict says, as a check
--   pair_at n ks f r    the hours of the pair at hours f and f + 1, or that it is unsound
--   halves_in cs i range   what the step down from node i answers, with its details as they stand in cs
--   Examined           the contract of the examination below a node; PairExamined, of a pair's; PairsExamined, of two
--                      neighbouring pairs'; FourExamined, of a node of four hours and its two pairs
use Rattle.std.specs.Prelude.{◌≡◌, cond, ◌&&◌, List, ℕ, ◌+◌, ◌-◌, ◌*◌, ◌/◌, ◌≤◌, ◌<◌, ℤ, pos, get_or}
use Rattle.std.specs.Prelude.{Err, None, Ok, Option, Result}
use Rattle.node.specs.Steps.{halves_as, halves_of}
use Rattle.words.specs.declared.NodeId.{NodeId}
use Rattle.words.specs.declared.Range.{Range}
use Rattle.words.specs.declared.Refusal.TheVariants as refusal
use Rattle.om3.specs.Series.{hour}
use Rattle.om3.specs.Nodes.{Node}
use Rattle.om3.specs.Table.{lent}
use Rattle.om3.specs.Down.{first_of_pair, second_of_pair, reached}
use Rattle.om3.specs.Checks.{Check, passes, refuses}
use Rattle.om3.specs.Sound.{sound_code, gap_from, nodes_below, examine_nodes}
use Rattle.node.specs.Located.{Located}
use Rattle.node.specs.declared.Halves.{Halves}

-- What a verdict says, as a check. [refusals 4]
abbrev pub check_of : Result Unit NodeId → Check
check_of (Ok u) = passes
check_of (Err i) = refuses (refusal.Unsound i)

-- The two hours of the pair at hours f and f + 1 with its range, or that it is unsound. [sound 4]
abbrev pub pair_at : (n : ℕ) → List ℕ → ℕ → Option Range → Option Halves
pair_at n ks f r =
    let c = get_or ks (f / 2) 0 in
    cond (sound_code r c && gap_from n (hour f) (first_of_pair r c) && gap_from n (hour (f + 1)) (second_of_pair r c))
    (halves_as (first_of_pair r c) (second_of_pair r c))
    None

-- The details of node i stand at the places 2i and 2i + 1. [table 3]
abbrev pub halves_in : List ℤ → NodeId → Option Range → Option Halves
halves_in cs i range = halves_of range (get_or cs (2 * i.0) (pos 0)) (get_or cs (2 * i.0 + 1) (pos 0))

-- Node v with the range reached there, and all nodes below it. [sound 6]
pub record Examined (n : ℕ) (cs : List ℤ) (ks : List ℕ) (i : NodeId) (f w : ℕ) (range : Option Range)
    (r : Result Unit NodeId) : Type 0 where
  pub below : (l : ℕ) (v : Node) → Located l v i.0 f w → range ≡ reached l (lent cs ks) v
      → check_of r ≡ examine_nodes l n (lent cs ks) (nodes_below (l - v.level) v)

-- A pair alone, whatever the coefficients are.
pub record PairExamined (n : ℕ) (ks : List ℕ) (i : NodeId) (f : ℕ) (range : Option Range) (r : Result Unit NodeId) :
    Type 0 where
  pub pair : (cs : List ℤ) (w : ℕ) → 2 ≤ w → w < 4 → Examined n cs ks i f w range r

-- Two neighbouring pairs: what is found at the first, and at the second if the first is sound.
pub record PairsExamined (n : ℕ) (ks : List ℕ) (i : NodeId) (f : ℕ) (one two : Option Range) (r : Result Unit NodeId) :
    Type 0 where
  pub found : Result Unit NodeId
  pub first : PairExamined n ks i f one found
  pub refused : (k : NodeId) → found ≡ Err k → r ≡ Err k
  pub second : found ≡ Ok tt → PairExamined n ks (record { 0 = i.0 + 1 }) (f + 2) two r

-- A node of four hours, which code that carries hours tells by there being fewer than eight.
pub record FourExamined (n : ℕ) (cs : List ℤ) (ks : List ℕ) (i : NodeId) (f : ℕ) (range : Option Range)
    (r : Result Unit NodeId) : Type 0 where
  pub four : (w : ℕ) → 4 ≤ w → w < 8 → Examined n cs ks i f w range r
