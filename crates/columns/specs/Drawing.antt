-- What the inner functions of the columns promise; the calls themselves cite om3's definitions. Assumes nothing.
--
--   inner_range i           the range over the nodes of an inner range
--   StoppedOver            the contract of a column stopped at nodes of so many hours, its buffers lent
--   StoppedAt              the contract of check 7 and of the column stopped at that depth, its buffers lent
--   stopped_answer          what a column answers whose examination passes, stopped at a depth; finished_answer,
--                           finished
--   SmallAnswer a          first and last reading of an answer are small enough to subtract
--   Answers r              every answer of r is so
--   walks_check, found_of    the examination of the walks from node u and from node v, and the answer they lead to
--   FoundFrom              the contract of the walks from the first and the last inner node
--   FinishedOver           the contract of a finished column, its buffers lent
use mathlib.Core.{Path.◌≡◌}
use Rattle.std.specs.Prelude.{Err, None, Option, Result, Some, List, [], ◌∷◌, ℕ, ◌+◌, ◌-◌, ◌^◌, ◌≤◌, ℤ}
use Rattle.words.specs.declared.Refusal.{Refusal}
use Rattle.words.specs.declared.Summary.{Summary}
use Rattle.words.specs.Said.{finished_as, stopped_as}
use Rattle.words.specs.{low_of, high_of}
use Rattle.words.specs.declared.{Column.Column, Range.Range, Finished.Finished, Stopped.Stopped}
use Rattle.om3.specs.Document.{levels, Node, Table, lent, Check, and_then, in_order, answer_by, examine_nodes}
use Rattle.om3.specs.Document.{check_depth, opened_nodes, count_at, outer, inner, examine_column, nodes_of, end_of}
use Rattle.om3.specs.Document.{first_walk, last_walk, reading_at, answer, count, finished_nodes}
use Rattle.stepping.specs.{Nodes.At, declared.Reached.Reached}
use Rattle.sight.specs.declared.Inner.{Inner}
use Rattle.walking.specs.Walking.{Small}

-- No nodes: the empty range. [columns 11]
abbrev pub inner_range : Option Inner → Option Range
inner_range None = None
inner_range (Some met) = met.range

-- Both ranges and the count at depth d, in a table of n hours.
abbrev pub stopped_answer : ℕ → Table → Column → ℕ → Result Stopped Refusal
stopped_answer n t x d =
    let l = levels n in
    stopped_as (outer l t x d) (inner l t x d) (count_at l t x d)

-- The answer is that of every depth d up to l whose nodes cover so many hours.
pub record StoppedOver (n : ℕ) (cs : List ℤ) (ks : List ℕ) (x : Column) (stop : ℕ) (r : Result Stopped Refusal)
    : Type 0 where
  pub answer : (d : ℕ) → d ≤ levels n → stop ≡ 2 ^ (levels n - d)
      → (let l = levels n in let t = lent cs ks in
      r ≡ answer_by Err (examine_column l t x n (opened_nodes l t x d)) (stopped_answer n t x d))

-- Check 7 comes first, then the examination, then the answer. [refusals 17]
pub record StoppedAt (n : ℕ) (cs : List ℤ) (ks : List ℕ) (x : Column) (d : ℕ) (r : Result Stopped Refusal)
    : Type 0 where
  pub answer : (let l = levels n in let t = lent cs ks in
      r ≡ answer_by Err
      (in_order (check_depth n d ∷ examine_column l t x n (opened_nodes l t x d) ∷ [])) (stopped_answer n t x d))

-- Both from −1,000,000 to 2,000,003, so that their difference is a number of 32 bits.
abbrev pub SmallAnswer : Option Summary → Type 0
SmallAnswer None = Unit
SmallAnswer (Some summary) = Small summary.first.grams × Small summary.last.grams

-- If r is an answer and no refusal, it is a small one.
pub record Answers (r : Result Finished Refusal) : Type 0 where
  pub small : (a : Option Summary) (m : ℕ) → r ≡ finished_as a m → SmallAnswer a

-- The walk to the first reading is examined from u down, then that to the last from v down. [columns 16]
abbrev pub walks_check : (l n : ℕ) → Table → Node → Node → Check
walks_check l n t u v =
    and_then (examine_nodes l n t (nodes_of l (first_walk l t u))) (examine_nodes l n t (nodes_of l (last_walk l t v)))

-- The readings at the ends of the two walks, with the low and the high of the inner range. [columns 13]
abbrev pub found_of : (l : ℕ) → Table → Option Range → Node → Node → Option Summary
found_of l t range u v =
    Some
    (record {
      first = reading_at l t (end_of l (first_walk l t u));
      last = reading_at l t (end_of l (last_walk l t v));
      low = low_of range;
      high = high_of range;
    })

-- The answer is that of every column whose first inner node is u and whose last is v: each walk counts the levels it
-- goes down. [columns 15]
pub record FoundFrom (n : ℕ) (cs : List ℤ) (ks : List ℕ) (range : Option Range) (first last : Reached) (count : ℕ)
    (r : Result Finished Refusal) : Type 0 where
  pub answers : Answers r
  pub answer : (l : ℕ) (u v : Node) → At l (lent cs ks) u first → At l (lent cs ks) v last
      → r ≡ answer_by Err (walks_check l n (lent cs ks) u v)
      (finished_as (found_of l (lent cs ks) range u v) (count + (l - u.level) + (l - v.level)))

-- The finished answer with its count, in a table of n hours.
abbrev pub finished_answer : ℕ → Table → Column → Result Finished Refusal
finished_answer n t x = finished_as (answer (levels n) t x) (count (levels n) t x)

-- The answer is the definition's, after its examination.
pub record FinishedOver (n : ℕ) (cs : List ℤ) (ks : List ℕ) (x : Column) (r : Result Finished Refusal) : Type 0 where
  pub answers : Answers r
  pub answer : (let l = levels n in let t = lent cs ks in
      r ≡ answer_by Err (examine_column l t x n (finished_nodes l t x)) (finished_answer n t x))
