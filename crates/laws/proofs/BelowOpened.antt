-- The nodes that are opened, and those that the outer and the inner range are over, are met by a visit that goes on
-- only below opened nodes: an opened node gives what its two halves give, and below any other visited node there is
-- nothing.
-- Assumes nothing.
use Rattle.kit.proofs.{◌≡◌, refl, sym, ap, ◌∙◌, Bool, true, false, cond, ◌&&◌, and-false, List, [], ◌∷◌, ◌++◌, ℕ, zero}
use Rattle.kit.proofs.{suc, ◌+◌, ◌-◌, ◌*◌, ◌/◌, ◌≤◌, ◌<◌, arith, ne_eqb}
use Rattle.words.specs.declared.Column.{Column}
use Rattle.om3.specs.Document.{keep, Node, root, left, right, both, Table, reached, nodes_below, has_reading, shares}
use Rattle.om3.specs.Document.{inside, opened, visited, range_over, is_outer, is_inner}
use Rattle.laws.proofs.{Lists.keep_append, Ranges.both-assoc}
use Rattle.laws.proofs.Opened.{left-half, right-half, half-unopened}

-- The range over two lists of nodes.
module _ (l : ℕ) (t : Table) where
  pub range-append : (vs us : List Node) → range_over l t (vs ++ us) ≡ both (range_over l t vs) (range_over l t us)
  unfolding range_over
  range-append [] us = refl
  range-append (v ∷ vs) us =
      ap (both (reached l t v)) (range-append vs us)
      ∙ sym (both-assoc (reached l t v) (range_over l t vs) (range_over l t us))

-- A node that does not pass a test gives what its halves give.
failed-kept : (p : Node → Bool) (h : ℕ) (v : Node) → p v ≡ false
    → keep p (nodes_below (suc h) v) ≡ keep p (nodes_below h (left v)) ++ keep p (nodes_below h (right v))
unfolding nodes_below keep
failed-kept p h v e = rw (e, keep_append p (nodes_below h (left v)) (nodes_below h (right v)))

-- A test that fails at each node of a kind, where the halves of such a node are of that kind too.
module _ (l : ℕ) (p : Node → Bool) (Kind : Node → Type 0) (fails : (v : Node) → Kind v → p v ≡ false)
    (halves : (v : Node) → v.level < l → Kind v → Kind (left v) × Kind (right v)) where
  none_kept : (h : ℕ) (v : Node) → v.level + h ≤ suc l → Kind v → keep p (nodes_below h v) ≡ []
  unfolding nodes_below keep
  none_kept zero v b k = refl
  none_kept (suc zero) v b k = rw (fails v k)
  none_kept (suc (suc h)) v b k =
      let two = halves v (omega arith) k in
      let b' : suc v.level + suc h ≤ suc l = omega arith in
      failed-kept p (suc h) v (fails v k)
      ∙ rw (none_kept (suc h) (left v) b' two.0, none_kept (suc h) (right v) b' two.1)

  -- A node whose halves are of that kind gives itself or nothing.
  alone-kept : (h : ℕ) (v : Node) → v.level + h ≤ l → (v.level < l → Kind (left v) × Kind (right v))
      → keep p (nodes_below (suc h) v) ≡ cond (p v) (v ∷ []) []
  unfolding nodes_below keep
  alone-kept zero v b k = refl
  alone-kept (suc h) v b k =
      let two = k (omega arith) in
      let b' : suc v.level + suc h ≤ suc l = omega arith in
      rw (
        keep_append p (nodes_below (suc h) (left v)) (nodes_below (suc h) (right v)),
        none_kept (suc h) (left v) b' two.0,
        none_kept (suc h) (right v) b' two.1,
      )

module _ (l : ℕ) (t : Table) (x : Column) (d : ℕ) where
  -- A half is visited exactly if the node above it is opened.
  pub visited-left : (v : Node) → visited l t x d (left v) ≡ opened l t x d v
  unfolding visited
  visited-left v =
      let a : suc v.level - 1 ≡ v.level = omega arith in
      let b : 2 * v.index / 2 ≡ v.index = omega arith in
      rw (ne_eqb (suc v.level) 0 (λ e. omega arith), a, b)

  pub visited-right : (v : Node) → visited l t x d (right v) ≡ opened l t x d v
  unfolding visited
  visited-right v =
      let a : suc v.level - 1 ≡ v.level = omega arith in
      let b : (2 * v.index + 1) / 2 ≡ v.index = omega arith in
      rw (ne_eqb (suc v.level) 0 (λ e. omega arith), a, b)

  pub visited-root : visited l t x d root ≡ true
  unfolding visited
  visited-root = refl

  -- The opened nodes.
  abbrev Unopened : Node → Type 0
  Unopened v = opened l t x d v ≡ false

  unopened-halves : (v : Node) → v.level < l → Unopened v → Unopened (left v) × Unopened (right v)
  unopened-halves v b o = (
    half-unopened l t x v (left v) (left-half l t v b) d o,
    half-unopened l t x v (right v) (right-half l t v b) d o,
  )

  pub opened-kept : (h : ℕ) (v : Node) → opened l t x d v ≡ true
      → keep (opened l t x d) (nodes_below (suc h) v)
      ≡ v ∷ keep (opened l t x d) (nodes_below h (left v)) ++ keep (opened l t x d) (nodes_below h (right v))
  unfolding nodes_below keep
  opened-kept h v o = rw (o, keep_append (opened l t x d) (nodes_below h (left v)) (nodes_below h (right v)))

  pub unopened-kept : (h : ℕ) (v : Node) → v.level + h ≤ suc l → opened l t x d v ≡ false
      → keep (opened l t x d) (nodes_below h v) ≡ []
  unopened-kept h v b o = none_kept l (opened l t x d) Unopened (λ u e. e) unopened-halves h v b o

  -- Nodes that are neither visited nor opened: all that lies below a node that is not opened.
  abbrev Unmet : Node → Type 0
  Unmet v = (visited l t x d v ≡ false) × (opened l t x d v ≡ false)

  unmet-below : (v : Node) → v.level < l → Unopened v → Unmet (left v) × Unmet (right v)
  unmet-below v b o =
      let two = unopened-halves v b o in
      ((visited-left v ∙ o, two.0), (visited-right v ∙ o, two.1))

  -- The nodes of the outer range.
  opened-not-outer : (v : Node) → opened l t x d v ≡ true → is_outer l t x d v ≡ false
  opened-not-outer v o = rw (o, and-false (visited l t x d v))

  unmet-not-outer : (v : Node) → Unmet v → is_outer l t x d v ≡ false
  unmet-not-outer v u = rw u.0

  pub outer-kept : (h : ℕ) (v : Node) → opened l t x d v ≡ true
      → keep (is_outer l t x d) (nodes_below (suc h) v)
      ≡ keep (is_outer l t x d) (nodes_below h (left v)) ++ keep (is_outer l t x d) (nodes_below h (right v))
  outer-kept h v o = failed-kept (is_outer l t x d) h v (opened-not-outer v o)

  pub outer-end : (h : ℕ) (v : Node) → v.level + h ≤ l → visited l t x d v ≡ true → opened l t x d v ≡ false
      → keep (is_outer l t x d) (nodes_below (suc h) v) ≡ cond (has_reading l t v && shares l x v) (v ∷ []) []
  outer-end h v b m o =
      alone-kept l (is_outer l t x d) Unmet unmet-not-outer (λ u c n. unmet-below u c n.1) h v b
      (λ c. unmet-below v c o)
      ∙ rw (m, o)

  -- The nodes of the inner range.
  pub inner-kept : (h : ℕ) (v : Node) → opened l t x d v ≡ true
      → keep (is_inner l t x d) (nodes_below (suc h) v)
      ≡ keep (is_inner l t x d) (nodes_below h (left v)) ++ keep (is_inner l t x d) (nodes_below h (right v))
  inner-kept h v o = failed-kept (is_inner l t x d) h v (rw (opened-not-outer v o))

  pub inner-end : (h : ℕ) (v : Node) → v.level + h ≤ l → visited l t x d v ≡ true → opened l t x d v ≡ false
      → keep (is_inner l t x d) (nodes_below (suc h) v)
      ≡ cond (has_reading l t v && shares l x v && inside l x v) (v ∷ []) []
  inner-end h v b m o =
      alone-kept l (is_inner l t x d) Unmet (λ u n. rw (unmet-not-outer u n)) (λ u c n. unmet-below u c n.1) h v b
      (λ c. unmet-below v c o)
      ∙ rw (m, o)
