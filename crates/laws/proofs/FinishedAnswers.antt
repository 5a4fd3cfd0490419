-- Where what is reached at each node is the range of its hours, the finished answer of a column is what a look through
-- its hours gives; and its count is at most 6·l − 1 where that of depth l is at most 4·l − 1, since each walk adds at
-- most l. Assumes nothing.
use Rattle.kit.proofs.{◌≡◌, refl, sym, ap, ◌∙◌, List, [], ◌∷◌, map, ℕ, ◌+◌, ◌-◌, ◌*◌, ◌^◌, ◌≤◌, arith, ℤ, None, Option}
use Rattle.kit.proofs.{Some}
use Rattle.words.specs.declared.Summary.{Summary}
use Rattle.words.specs.{low_of, high_of}
use Rattle.words.specs.declared.{Column.Column}
use Rattle.om3.specs.Document.{last_of, sum, Node, InTree, range_of, Table, reached, column_hours, count_at, range_over}
use Rattle.om3.specs.Document.{levels_of, end_of, walk_end, towards_first, towards_last, first_walk, last_walk}
use Rattle.om3.specs.Document.{reading_at, inside_nodes, walks_from, answer_from, answer, count, look_through}
use Rattle.laws.proofs.{Listed.All, Answers.joined-right, LookedThrough.range_of_answer, LookedThrough.range-joined}
use Rattle.laws.proofs.{NodeAnswers.reached-answer, WalksEnd.walk_first, WalksEnd.walk-last, InnerAnswers.inner-looks}
use Rattle.laws.proofs.KeptNodes.{NonEmpty, inside-inner, inside-non-empty}
use Rattle.laws.proofs.NodeAnswers.{node_answer, Begins, Ends, begins-joined, ends-joined, joined_over}

-- An answer is told by its first reading, its last reading and its range.
answer-told : (l : ℕ) (t : Table) (v : Node) (vs : List Node) (a : Option Summary)
    → Begins a (reading_at l t (end_of l (first_walk l t v)))
    → Ends a (reading_at l t (end_of l (last_walk l t (last_of v vs))))
    → range_over l t (v ∷ vs) ≡ range_of_answer a → answer_from l t (v ∷ vs) ≡ a
answer-told l t v vs None p q e = absurd p
answer-told l t v vs (Some f) p q e =
    λ i. Some (record { first = sym p i; last = sym q i; low = ap low_of e i; high = ap high_of e i })

module _ (l n : ℕ) (s : List ℤ) (t : Table)
    (ranges : (v : Node) → InTree l v → reached l t v ≡ range_of l n s v) where
  abbrev A : Node → Option Summary
  A v = node_answer l n s v

  abbrev J : List Node → Option Summary
  J vs = joined_over l n s vs

  range-over : (vs : List Node) → All (NonEmpty l t) vs → range_over l t vs ≡ range_of_answer (J vs)
  unfolding range_over joined_over
  range-over [] a = refl
  range-over (v ∷ vs) a =
      rw (reached-answer l n s t ranges v a.0.in_tree, range-over vs a.1) (sym (range-joined (A v) (J vs)))

  -- The first reading of a list of nodes is that of its first node, the last that of its last node.
  first-over : (v : Node) (vs : List Node) → NonEmpty l t v
      → Begins (J (v ∷ vs)) (reading_at l t (walk_end (towards_first l t) (l - v.level) v))
  unfolding joined_over
  first-over v vs r =
      let d = r.in_tree.deep in
      begins-joined (A v) (J vs) _
      (walk_first l n s t ranges (l - v.level) v (omega arith) r.in_tree r.reading)

  last-over : (v : Node) (vs : List Node) → All (NonEmpty l t) (v ∷ vs)
      → Ends (J (v ∷ vs)) (reading_at l t (walk_end (towards_last l t) (l - (last_of v vs).level) (last_of v vs)))
  unfolding joined_over last_of
  last-over v [] a =
      let d = a.0.in_tree.deep in
      rw (joined-right (A v))
      (walk-last l n s t ranges (l - v.level) v (omega arith) a.0.in_tree a.0.reading)
  last-over v (u ∷ us) a = ends-joined (A v) (J (u ∷ us)) _ (last-over u us a.1)

  answer-joined : (vs : List Node) → All (NonEmpty l t) vs → answer_from l t vs ≡ J vs
  answer-joined [] a = unfold joined_over in refl
  answer-joined (v ∷ vs) a =
      answer-told l t v vs (J (v ∷ vs)) (first-over v vs a.0) (last-over v vs a) (range-over (v ∷ vs) a)

  pub finished-looks : (x : Column) → x.from.0 ≤ x.upto.0 → x.upto.0 ≤ 2 ^ l
      → answer l t x ≡ look_through n s (column_hours x)
  finished-looks x some most =
      answer-joined (inside_nodes l t x) (inside-non-empty l t x)
      ∙ rw (inside-inner l t x) (inner-looks l n s t ranges x some most)

pub finished-count : (l : ℕ) (t : Table) (x : Column) → 1 ≤ l → count_at l t x l ≤ 4 * l - 1 → count l t x ≤ 6 * l - 1
finished-count l t x o h = by (inside_nodes l t x)
  where
    by : (vs : List Node) → count_at l t x l + sum (map (levels_of l) (walks_from l t vs)) ≤ 6 * l - 1
    by [] = omega arith
    by (v ∷ vs) = omega arith
