-- With greater depth the inner range widens and the outer range narrows, and at depth l they are one: there each
-- visited node that is not opened, has a reading and shares an hour with the column lies wholly inside it. Assumes
-- nothing.
use Rattle.kit.proofs.{◌≡◌, refl, sym, ◌∙◌, Bool, true, false, cond, ℕ, ◌+◌, ◌≤◌, ◌<◌, None, Option, Some}
use Rattle.signed.proofs.{clash}
use Rattle.words.specs.declared.{Column.Column, Range.Range}
use Rattle.om3.specs.Document.{Node, InTree, left, right, both, Table, reached, shares, inside, opened, visited, outer}
use Rattle.om3.specs.Document.{inner, LiesWithin}
use Rattle.laws.proofs.{Tests.chosen, Intervals.inside-shares, Opened.opened-opens, Opened.unopened-if}
use Rattle.laws.proofs.{EachVisited.root-visited, RangesBelow.outer-unopened, RangesBelow.inner-unopened}
use Rattle.laws.proofs.BelowOpened.{visited-left, visited-right, visited-root}
use Rattle.laws.proofs.RangesWithin.{within-refl, within-trans, both-widen}
use Rattle.laws.proofs.EachVisited.{opened-or-inside, opened-deeper, AtEnds, GoingOn, each-visited}
use Rattle.laws.proofs.RangesBelow.{outer_below, inner_below, outer-root, inner-root, outer-opened, inner-opened}

-- In a table the range of each node above the hours is that of its halves together.
abbrev pub Joins : ℕ → Table → Type 0
Joins l t = (v : Node) → InTree l v → v.level < l → reached l t v ≡ both (reached l t (left v)) (reached l t (right v))

module _ (l : ℕ) (t : Table) (x : Column) where
  module _ (d e : ℕ) (d≤e : d ≤ e) where
    abbrev InnerWider : ℕ → Node → Type 0
    InnerWider h v = visited l t x e v ≡ true → LiesWithin (inner_below l t x d h v) (inner_below l t x e h v)

    -- A node wholly inside the column is opened at no depth: it gives its range at both.
    inner-ends : AtEnds l t x d InnerWider
    inner-ends h v q i m o n =
        rw (inner-unopened l t x d h v q m o)
        (chosen (λ r. LiesWithin r (inner_below l t x e h v)) (inside l x v)
        (λ p.
        let o' = unopened-if l t x e v (λ u. clash (sym u.partly ∙ p)) in
        rw (inner-unopened l t x e h v q n o', p) (within-refl (reached l t v)))
        (λ p. tt))

    inner-goes : GoingOn l t x d InnerWider
    inner-goes h v b i o p q n =
        let o' = opened-deeper l t x d e d≤e v o in
        rw (inner-opened l t x d h v o, inner-opened l t x e h v o')
        (both-widen (inner_below l t x d h (left v)) (inner_below l t x d h (right v)) _ _
        (p (visited-left l t x e v ∙ o')) (q (visited-right l t x e v ∙ o')))

    -- The inner range at a depth lies within that at any greater one.
    pub inner-widens : LiesWithin (inner l t x d) (inner l t x e)
    inner-widens =
        rw (inner-root l t x d, inner-root l t x e)
        (root-visited l t x d InnerWider inner-ends inner-goes (visited-root l t x e))

  -- A visited node that is not opened at depth l is empty, lies wholly inside the column or shares no hour with it.
  module _ (v : Node) (i : InTree l v) (o : opened l t x l v ≡ false) where
    ends-agree : cond (shares l x v) (reached l t v) None ≡ cond (inside l x v) (reached l t v) None
    ends-agree = by (shares l x v) refl (inside l x v) refl (reached l t v) refl
      where
        by : (c : Bool) → shares l x v ≡ c → (b : Bool) → inside l x v ≡ b → (r : Option Range) → reached l t v ≡ r
            → cond c r None ≡ cond b r None
        by true s true p r e = refl
        by false s false p r e = refl
        by false s true p r e = clash (sym s ∙ inside-shares l x v p)
        by true s false p None e = refl
        by true s false p (Some r) e = clash (sym o ∙ opened-or-inside l t x v i (rw e) s p)

  -- At depth l the outer range is the inner one.
  pub depth-agrees : outer l t x l ≡ inner l t x l
  depth-agrees =
      rw (outer-root l t x l, inner-root l t x l)
      (root-visited l t x l (λ h v. outer_below l t x l h v ≡ inner_below l t x l h v)
      (λ h v q i m o.
      outer-unopened l t x l h v q m o ∙ ends-agree v i o ∙ sym (inner-unopened l t x l h v q m o))
      (λ h v b i o p q. rw (outer-opened l t x l h v o, inner-opened l t x l h v o, p, q)))

  module _ (joins : Joins l t) where
    -- What comes from a visited node lies within that node's range, and there is nothing if it shares no hour.
    module _ (e : ℕ) where
      abbrev InNode : ℕ → Node → Type 0
      InNode h v = LiesWithin (outer_below l t x e h v) (cond (shares l x v) (reached l t v) None)

      in-reached : (h : ℕ) (v : Node) → InNode h v → LiesWithin (outer_below l t x e h v) (reached l t v)
      in-reached h v p =
          within-trans (outer_below l t x e h v) (cond (shares l x v) (reached l t v) None) (reached l t v) p
          (chosen (λ r. LiesWithin r (reached l t v)) (shares l x v) (λ s. within-refl (reached l t v)) (λ s. tt))

      node-goes : GoingOn l t x e InNode
      node-goes h v b i o p q =
          rw (outer-opened l t x e h v o, (opened-opens l t x e v o).sharing, joins v i b)
          (both-widen (outer_below l t x e h (left v)) (outer_below l t x e h (right v)) _ _
          (in-reached h (left v) p) (in-reached h (right v) q))

      outer-in-node : (h : ℕ) (v : Node) → v.level + h ≡ l → InTree l v → visited l t x e v ≡ true → InNode h v
      outer-in-node =
          each-visited l t x e InNode
          (λ h v q i m o.
          rw (outer-unopened l t x e h v q m o) (within-refl (cond (shares l x v) (reached l t v) None)))
          node-goes

    module _ (d e : ℕ) (d≤e : d ≤ e) where
      abbrev OuterNarrower : ℕ → Node → Type 0
      OuterNarrower h v = visited l t x e v ≡ true → LiesWithin (outer_below l t x e h v) (outer_below l t x d h v)

      outer_goes : GoingOn l t x d OuterNarrower
      outer_goes h v b i o p q n =
          let o' = opened-deeper l t x d e d≤e v o in
          rw (outer-opened l t x d h v o, outer-opened l t x e h v o')
          (both-widen (outer_below l t x e h (left v)) (outer_below l t x e h (right v)) _ _
          (p (visited-left l t x e v ∙ o')) (q (visited-right l t x e v ∙ o')))

      -- The outer range at a depth lies within that at any lesser one.
      pub outer-narrows : LiesWithin (outer l t x e) (outer l t x d)
      outer-narrows =
          rw (outer-root l t x d, outer-root l t x e)
          (root-visited l t x d OuterNarrower
          (λ h v q i m o n. rw (outer-unopened l t x d h v q m o) (outer-in-node e h v q i n))
          outer_goes (visited-root l t x e))
