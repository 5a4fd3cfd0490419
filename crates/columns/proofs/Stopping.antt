-- A column stopped at a depth, for each answer of the visit. Assumes nothing.
use Rattle.kit.proofs.{◌≡◌, refl, sym, List, [], ◌∷◌, ℕ, ◌+◌, ◌-◌, ◌*◌, ◌^◌, ◌≤◌, ◌<◌, ℤ, le-leb, lt-leb, lt-ltb, None}
use Rattle.kit.proofs.{Err, Ok, Result, le-ltb}
use Rattle.words.specs.declared.Refusal.{Refusal}
use Rattle.words.specs.Said.{stopped_as}
use Rattle.words.specs.declared.{Column.Column, NodeId.NodeId, Refusal.TheVariants.TooDeep}
use Rattle.words.specs.declared.{Refusal.TheVariants.Unsound}
use Rattle.words.specs.declared.{Stopped.Stopped}
use Rattle.om3.specs.Document.{levels, Node, Table, lent, in_order, opened_nodes, count_at, range_over, examine_column}
use Rattle.laws.proofs.{Examined.then-passes}
use Rattle.laws.proofs.WithoutHours.{none-outer, none-inner, none-count}
use Rattle.stepping.specs.Nodes.{StopsAt}
use Rattle.sight.specs.{Seen.inner_over, declared.Seen.Seen}
use Rattle.visiting.specs.{Visiting.TableVisited}
use Rattle.columns.specs.Drawing.{inner_range, StoppedOver, StoppedAt}

-- The range of inner nodes is the range over them.
inner-range : (l : ℕ) (t : Table) (vs : List Node) → inner_range (inner_over l t vs) ≡ range_over l t vs
unfolding range_over
inner-range l t [] = refl
inner-range l t (v ∷ vs) = refl

module _ (n : ℕ) (cs : List ℤ) (ks : List ℕ) (x : Column) (stop : ℕ) where
  abbrev l : ℕ
  l = levels n

  abbrev T : Table
  T = lent cs ks

  -- No hour: the table is not examined.
  pub stopped_none : x.upto.0 ≤ x.from.0 → StoppedOver n cs ks x stop (stopped_as None None 0)
  stopped_none h =
      let none = le-leb x.upto.0 x.from.0 h in
      record {
        answer = λ d deep stops. rw (none, none-outer l T x h d, none-inner l T x h d, none-count l T x h d);
      }

  module _ (some : x.from.0 < x.upto.0) where
    asked : (d : ℕ) → d ≤ l → stop ≡ 2 ^ (l - d) → StopsAt l d x stop
    asked d deep stops = record { deep = deep; stops = stops; some = some }

    pub stopped-unsound : (i : NodeId) → TableVisited n cs ks x stop (Err i)
        → StoppedOver n cs ks x stop (Err (Unsound i))
    stopped-unsound i W =
        record {
          answer = λ d deep stops.
              rw (lt-leb x.upto.0 x.from.0 some, sym (W.examined d (asked d deep stops)));
        }

    pub stopped-seen : (s : Seen) → TableVisited n cs ks x stop (Ok s)
        → StoppedOver n cs ks x stop (stopped_as s.outer (inner_range s.inner) (1 + 2 * s.opened))
    unfolding count_at
    stopped-seen s W =
        record {
          answer = λ d deep stops.
              let a = asked d deep stops in
              let hours = lt-leb x.upto.0 x.from.0 some in
              rw (hours, sym (W.examined d a), W.saw d a s refl, inner-range l T);
        }

-- Check 7, and then the column at that depth.
module _ (n : ℕ) (cs : List ℤ) (ks : List ℕ) (x : Column) (d : ℕ) where
  pub too-deep : levels n < d → StoppedAt n cs ks x d (Err TooDeep)
  unfolding in_order
  too-deep h = record { answer = rw (lt-ltb (levels n) d h) }

  pub deep-enough : d ≤ levels n → (stop : ℕ) → stop ≡ 2 ^ (levels n - d) → (r : Result Stopped Refusal)
      → StoppedOver n cs ks x stop r → StoppedAt n cs ks x d r
  unfolding in_order
  deep-enough h stop e r S =
      let l = levels n in
      let T = lent cs ks in
      record {
        answer =
            rw (le-ltb (levels n) d h, then-passes (examine_column l T x n (opened_nodes l T x d))) (S.answer d h e);
      }
