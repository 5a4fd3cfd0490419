-- Where what is reached at each node is the range of its hours, the answers of the inner nodes at depth l join to what
-- a look through the column's hours gives: at that depth no hour of the column with a reading is left out. Assumes
-- nothing.
use Rattle.kit.proofs.{◌≡◌, refl, sym, ◌∙◌, Bool, true, false, cond, ◌&&◌, List, [], ◌∷◌, ℕ, suc, ◌^◌, ◌≤◌, ◌<◌, arith}
use Rattle.kit.proofs.{Option, ℤ}
use Rattle.words.specs.declared.Summary.{Summary}
use Rattle.signed.proofs.{clash}
use Rattle.words.specs.declared.{Column.Column}
use Rattle.om3.specs.Document.{keep, Node, InTree, left, right, range_of, Table, reached, nodes_below, in_column}
use Rattle.om3.specs.Document.{column_hours, has_reading, shares, inside, opened, is_inner, inner_nodes, joined}
use Rattle.om3.specs.Document.{look_through}
use Rattle.laws.proofs.{BelowOpened.inner-kept, BelowOpened.inner-end, Answers.joined-right}
use Rattle.laws.proofs.{LookedThrough.look-through-none, LookedThrough.look-through-append, KeptHours.root_kept}
use Rattle.laws.proofs.EachVisited.{opened-or-inside, AtEnds, GoingOn, root-visited}
use Rattle.laws.proofs.NodeAnswers.{node_answer, no_answer, joined_over, joined-over-append}
use Rattle.laws.proofs.KeptHours.{no-reading-kept, hours_shared, inside-kept, unshared-kept, halves-kept}

module _ (l n : ℕ) (s : List ℤ) (t : Table) (ranges : (v : Node) → InTree l v → reached l t v ≡ range_of l n s v)
    (x : Column) where
  -- The answer of those hours of a node that lie in the column.
  abbrev answer_in : Node → Option Summary
  answer_in v = look_through n s (hours_shared l x v)

  abbrev J : List Node → Option Summary
  J vs = joined_over l n s vs

  answer-in-halves : (v : Node) → v.level < l → answer_in v ≡ joined (answer_in (left v)) (answer_in (right v))
  answer-in-halves v b =
      rw (halves-kept l x v b) (look-through-append n s (hours_shared l x (left v)) (hours_shared l x (right v)))

  module _ (v : Node) (i : InTree l v) (o : opened l t x l v ≡ false) where
    -- A visited node that is not opened.
    unopened-in : J (cond (has_reading l t v && shares l x v && inside l x v) (v ∷ []) []) ≡ answer_in v
    unfolding joined_over
    unopened-in = by (has_reading l t v) (shares l x v) (inside l x v) refl refl refl
      where
        by : (r h c : Bool) → has_reading l t v ≡ r → shares l x v ≡ h → inside l x v ≡ c
            → J (cond (r && h && c) (v ∷ []) []) ≡ answer_in v
        by false h c p q e = sym (no-reading-kept n s (in_column x) _ (no_answer l n s t ranges v i p))
        by true false c p q e = rw (unshared-kept l x v q) (sym (look-through-none n s))
        by true true true p q e = joined-right (node_answer l n s v) ∙ rw (inside-kept l x v e)
        by true true false p q e = clash (sym o ∙ opened-or-inside l t x v i p q e)

  abbrev Inner : ℕ → Node → List Node
  Inner h v = keep (is_inner l t x l) (nodes_below (suc h) v)

  -- What the inner nodes among node v and the h levels below it answer is the answer of its hours in the column.
  abbrev Answered : ℕ → Node → Type 0
  Answered h v = J (Inner h v) ≡ answer_in v

  inner-ends : AtEnds l t x l Answered
  inner-ends h v e i m o = rw (inner-end l t x l h v (omega arith) m o) (unopened-in v i o)

  inner-goes : GoingOn l t x l Answered
  inner-goes h v b i o p q =
      rw (inner-kept l t x l (suc h) v o, joined-over-append l n s (Inner h (left v)) (Inner h (right v)), p, q)
      (sym (answer-in-halves v b))

  pub inner-looks : x.from.0 ≤ x.upto.0 → x.upto.0 ≤ 2 ^ l
      → joined_over l n s (inner_nodes l t x l) ≡ look_through n s (column_hours x)
  unfolding inner_nodes
  inner-looks some most = root-visited l t x l Answered inner-ends inner-goes ∙ rw (root_kept x l some most)
