-- The outer and the inner range at a depth, node by node: an opened node gives what its halves give together, any other
-- visited node gives its own range if it shares an hour with the column, or lies wholly inside it. Assumes nothing.
use Rattle.kit.proofs.{◌≡◌, refl, ap, ◌∙◌, Bool, true, false, cond, not, ◌&&◌, and-true, and-false, [], ◌∷◌, ℕ, suc}
use Rattle.kit.proofs.{None, Option, Some, ◌+◌, arith}
use Rattle.words.specs.declared.{Column.Column, Range.Range}
use Rattle.om3.specs.Document.{keep, Node, root, left, right, is_empty, both, Table, reached, nodes_below, has_reading}
use Rattle.om3.specs.Document.{shares, inside, opened, visited, range_over, is_outer, outer, is_inner, inner_nodes}
use Rattle.om3.specs.Document.{inner}
use Rattle.laws.proofs.{Tests.by-test, Ranges.both-empty, Intervals.inside-shares}
use Rattle.laws.proofs.BelowOpened.{range-append, outer-kept, outer-end, inner-kept, inner-end}

-- Where an empty range gives itself, it need not be asked whether there is a reading.
reading-range : (r : Option Range) (b : Bool) → cond (not (is_empty r) && b) r None ≡ cond b r None
reading-range None true = refl
reading-range None false = refl
reading-range (Some r) c = refl

alone : (l : ℕ) (t : Table) (b : Bool) (v : Node) → range_over l t (cond b (v ∷ []) []) ≡ cond b (reached l t v) None
unfolding range_over
alone l t true v = both-empty (reached l t v)
alone l t false v = refl

module _ (l : ℕ) (t : Table) (x : Column) where
  inside-range : (v : Node)
      → cond (has_reading l t v && shares l x v && inside l x v) (reached l t v) None
      ≡ cond (inside l x v) (reached l t v) None
  inside-range v =
      by-test (inside l x v)
      (λ e. rw (e, inside-shares l x v e, and-true (has_reading l t v && true)) (reading-range (reached l t v) true))
      (λ e. rw (e, and-false (has_reading l t v && shares l x v)))

  module _ (d : ℕ) where
    -- The part of each range that comes from node v and the h levels below it.
    unfoldable pub outer_below : ℕ → Node → Option Range
    outer_below h v = range_over l t (keep (is_outer l t x d) (nodes_below (suc h) v))

    unfoldable pub inner_below : ℕ → Node → Option Range
    inner_below h v = range_over l t (keep (is_inner l t x d) (nodes_below (suc h) v))

    -- The whole range is what comes from node 1.
    pub outer-root : outer l t x d ≡ outer_below l root
    unfolding outer outer_below
    outer-root = refl

    pub inner-root : inner l t x d ≡ inner_below l root
    unfolding inner_nodes inner_below
    inner-root = refl

    module _ (h : ℕ) (v : Node) where
      -- From an opened node comes what comes from its halves.
      pub outer-opened : opened l t x d v ≡ true
          → outer_below (suc h) v ≡ both (outer_below h (left v)) (outer_below h (right v))
      unfolding outer_below
      outer-opened o =
          ap (range_over l t) (outer-kept l t x d (suc h) v o)
          ∙ range-append l t (keep (is_outer l t x d) (nodes_below (suc h) (left v))) _

      pub inner-opened : opened l t x d v ≡ true
          → inner_below (suc h) v ≡ both (inner_below h (left v)) (inner_below h (right v))
      unfolding inner_below
      inner-opened o =
          ap (range_over l t) (inner-kept l t x d (suc h) v o)
          ∙ range-append l t (keep (is_inner l t x d) (nodes_below (suc h) (left v))) _

      module _ (e : v.level + h ≡ l) (m : visited l t x d v ≡ true) (o : opened l t x d v ≡ false) where
        -- From any other visited node comes its own range.
        pub outer-unopened : outer_below h v ≡ cond (shares l x v) (reached l t v) None
        unfolding outer_below
        outer-unopened =
            ap (range_over l t) (outer-end l t x d h v (omega arith) m o)
            ∙ alone l t (has_reading l t v && shares l x v) v
            ∙ reading-range (reached l t v) (shares l x v)

        pub inner-unopened : inner_below h v ≡ cond (inside l x v) (reached l t v) None
        unfolding inner_below
        inner-unopened =
            ap (range_over l t) (inner-end l t x d h v (omega arith) m o)
            ∙ alone l t (has_reading l t v && shares l x v && inside l x v) v
            ∙ inside-range v
