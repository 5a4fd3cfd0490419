-- What the visit over opened nodes promises. Cited by the contracts of this crate and of the columns. Assumes nothing.
--
--   visit_check r              what a visit says, as a check
--   Visits                    what a visit says of node v and the nodes below it
--   VisitedFrom               the contract of the visit below a node; TableVisited, of that from the root values
use mathlib.Core.{Path.◌≡◌, List.List}
use Rattle.std.specs.Prelude.{Err, Ok, Result, true, ℕ, suc, ◌+◌, ◌-◌, ◌≤◌, ◌<◌, ℤ}
use Rattle.words.specs.declared.NodeId.{NodeId}
use Rattle.words.specs.declared.Column.{Column}
use Rattle.words.specs.declared.Refusal.TheVariants as refusal
use Rattle.om3.specs.Document.{keep, levels, P, Node, Table, lent, Check, passes, refuses, nodes_below, examine}
use Rattle.om3.specs.Document.{examine_nodes, opened, opened_nodes, visited}
use Rattle.stepping.specs.Nodes.{At, StopsAt}
use Rattle.stepping.specs.declared.Reached.{Reached}
use Rattle.sight.specs.Seen.{InnerBelow, seen_of, table_seen}
use Rattle.sight.specs.declared.Seen.{Seen}

-- A visit is through exactly if the nodes that it opened are sound. [refusals 4]
abbrev pub visit_check : Result Seen NodeId → Check
visit_check (Err i) = refuses (refusal.Unsound i)
visit_check (Ok s) = passes

-- The opened nodes are examined in their order; where all are sound, this is what was seen. [columns 10, 11, 16]
pub record Visits (l n : ℕ) (t : Table) (x : Column) (d c : ℕ) (v : Node) (r : Result Seen NodeId) : Type 0 where
  pub examined : visit_check r ≡ examine_nodes l n t (keep (opened l t x d) (nodes_below (suc (l - v.level)) v))
  pub saw : (s : Seen) → r ≡ Ok s → s ≡ seen_of l t x d c v

-- Below a visited node; no more nodes are opened than it covers hours, less one.
pub record VisitedFrom (n : ℕ) (cs : List ℤ) (ks : List ℕ) (x : Column) (stop c : ℕ) (at : Reached)
    (r : Result Seen NodeId) : Type 0 where
  pub few : (s : Seen) → r ≡ Ok s → s.opened + 1 ≤ c + at.hours
  pub below : (s : Seen) → r ≡ Ok s → InnerBelow stop cs ks s.inner
  pub visits : (l d : ℕ) (v : Node) → StopsAt l d x stop → At l (lent cs ks) v at → visited l (lent cs ks) x d v ≡ true
      → Visits l n (lent cs ks) x d c v r

-- From the root values: node 0 is examined first, and node 1 is visited. [columns 8, 16]
pub record TableVisited (n : ℕ) (cs : List ℤ) (ks : List ℕ) (x : Column) (stop : ℕ) (r : Result Seen NodeId)
    : Type 0 where
  pub few : (s : Seen) → r ≡ Ok s → s.opened < P n
  pub below : (s : Seen) → r ≡ Ok s → InnerBelow stop cs ks s.inner
  pub examined : (d : ℕ) → StopsAt (levels n) d x stop
      → visit_check r ≡ examine (levels n) n (lent cs ks) (opened_nodes (levels n) (lent cs ks) x d)
  pub saw : (d : ℕ) → StopsAt (levels n) d x stop → (s : Seen) → r ≡ Ok s
      → s ≡ table_seen (levels n) (lent cs ks) x d
