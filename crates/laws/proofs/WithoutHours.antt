-- A column without an hour shares none with any node: it has no outer and no inner range, no inside node and so no
-- reading, and its count is 0. Assumes nothing.
use Rattle.kit.proofs.{◌≡◌, refl, Bool, false, not, ◌&&◌, and-false, List, [], ◌∷◌, ℕ, ◌≤◌, arith, le-leb, None}
use Rattle.words.specs.declared.{Column.Column}
use Rattle.om3.specs.Document.{keep, Node, Table, all_nodes, has_reading, shares, opened, visited, count_at, range_over}
use Rattle.om3.specs.Document.{is_outer, is_inner, outer, inner_nodes, inner, inside_nodes, answer, count}
use Rattle.laws.proofs.{Tests.fails-up, Intervals.shares-overlap, KeptNodes.inside-inner}

none_kept : (p : Node → Bool) → ((v : Node) → p v ≡ false) → (vs : List Node) → keep p vs ≡ []
unfolding keep
none_kept p fails [] = refl
none_kept p fails (v ∷ vs) = rw (fails v) (none_kept p fails vs)

module _ (l : ℕ) (t : Table) (x : Column) (none : x.upto.0 ≤ x.from.0) where
  unshared : (v : Node) → shares l x v ≡ false
  unshared v = fails-up (shares l x v) false (λ e. absurd (omega (arith, (shares-overlap l x v e).some))) refl

  not-outer : (d : ℕ) (v : Node) → is_outer l t x d v ≡ false
  not-outer d v = rw (unshared v) (and-false (visited l t x d v && not (opened l t x d v) && has_reading l t v))

  pub none-outer : (d : ℕ) → outer l t x d ≡ None
  unfolding outer range_over
  none-outer d = rw (none_kept (is_outer l t x d) (not-outer d) (all_nodes l))

  no-inner-nodes : (d : ℕ) → inner_nodes l t x d ≡ []
  unfolding inner_nodes
  no-inner-nodes d = none_kept (is_inner l t x d) (λ v. rw (not-outer d v)) (all_nodes l)

  pub none-inner : (d : ℕ) → inner l t x d ≡ None
  unfolding range_over
  none-inner d = rw (no-inner-nodes d)

  pub none_inside : inside_nodes l t x ≡ []
  none_inside = rw (inside-inner l t x) (no-inner-nodes l)

  pub none-answer : answer l t x ≡ None
  none-answer = rw none_inside

  pub none-count : (d : ℕ) → count_at l t x d ≡ 0
  unfolding count_at
  none-count d = rw (le-leb x.upto.0 x.from.0 none)

  pub none-finished-count : count l t x ≡ 0
  none-finished-count = rw (none_inside, none-count l)
