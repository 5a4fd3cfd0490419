-- What is seen in two lists of nodes, one after the other; that nodes that do not touch the column add nothing; and the
-- inner nodes of two visits together. Assumes nothing.
use Rattle.kit.proofs.{◌≡◌, refl, sym, ap, ◌∙◌, Bool, true, false, cond, List, [], ◌∷◌, ◌++◌, append-nil, ℕ, ℤ, Some}
use Rattle.kit.proofs.{None, Option}
use Rattle.sight.specs.Seen.{inner_as, unopened_of, both_inner, both_seen, InnerBelow, inner_over}
use Rattle.words.specs.declared.{Column.Column, Range.Range}
use Rattle.om3.specs.Document.{last_of, Node, Table, reached, range_over}
use Rattle.laws.proofs.{Ranges.both-empty, BelowOpened.range-append}
use Rattle.stepping.specs.Nodes.{reached_of, At, Below, touches_of}
use Rattle.stepping.specs.declared.Reached.{Reached}
use Rattle.sight.specs.declared.{Inner.Inner, Seen.Seen}

-- Two things seen with the same parts are the same.
pub seen_same : {o p : Option Range} {i j : Option Inner} {c d : ℕ} → o ≡ p → i ≡ j → c ≡ d
    → ◌≡◌ {A = Seen} (record { outer = o; inner = i; opened = c }) (record { outer = p; inner = j; opened = d })
seen_same e f g = λ k. record { outer = e k; inner = f k; opened = g k }

-- A node as the code carries it is the node.
at_same : {l : ℕ} {t : Table} {v : Node} {at : Reached} → At l t v at → at ≡ reached_of l t v
at_same here =
    let i = sym here.located.numbered in
    let f = sym here.located.begins in
    let w = sym here.located.covers in
    λ k. record { id = record { 0 = i k }; from = record { 0 = f k }; hours = w k; range = here.range k }

last-append : (v u : Node) (vs us : List Node) → last_of v (vs ++ u ∷ us) ≡ last_of u us
unfolding last_of
last-append v u [] us = refl
last-append v u (w ∷ vs) us = last-append w u vs us

module _ (l : ℕ) (t : Table) where
  pub inner-append : (vs us : List Node)
      → both_inner (inner_over l t vs) (inner_over l t us) ≡ inner_over l t (vs ++ us)
  inner-append [] us = refl
  inner-append (v ∷ vs) [] = ap (λ (ws : List Node). inner_over l t (v ∷ ws)) (sym (append-nil vs))
  inner-append (v ∷ vs) (u ∷ us) =
      let e = sym (range-append l t (v ∷ vs) (u ∷ us)) in
      let f = ap (reached_of l t) (sym (last-append v u vs us)) in
      λ k. inner_as (e k) (reached_of l t v) (f k)

  -- A node alone.
  pub inner-alone : (b : Bool) (v : Node) {at : Reached} → At l t v at
      → cond b (inner_as at.range at at) None ≡ inner_over l t (cond b (v ∷ []) [])
  unfolding range_over last_of
  inner-alone true v {at} here =
      let e = here.range ∙ sym (both-empty (reached l t v)) in
      let f = at_same here in
      λ k. inner_as (e k) (f k) (f k)
  inner-alone false v here = refl

  pub outer-alone : (b : Bool) (v : Node) {r : Option Range} → r ≡ reached l t v
      → cond b r None ≡ range_over l t (cond b (v ∷ []) [])
  unfolding range_over
  outer-alone true v e = e ∙ sym (both-empty (reached l t v))
  outer-alone false v e = refl

-- A node that does not touch the column adds nothing, before or after.
module _ (x : Column) (at : Reached) (no : touches_of x at ≡ false) where
  pub nothing-before : (c : ℕ) (s : Seen) → both_seen (unopened_of x c at) s ≡ s
  nothing-before c s = rw no

  inner-nothing : (i : Option Inner) → both_inner i None ≡ i
  inner-nothing None = refl
  inner-nothing (Some met) = refl

  pub nothing-after : (s : Seen) → both_seen s (unopened_of x s.opened at) ≡ s
  nothing-after s = rw no (seen_same (both-empty s.outer) (inner-nothing s.inner) refl)

-- The inner nodes of two visits.
module _ (stop : ℕ) (cs : List ℤ) (ks : List ℕ) where
  pub alone-below : (b : Bool) (range : Option Range) (at : Reached) → Below stop cs ks at
      → InnerBelow stop cs ks (cond b (inner_as range at at) None)
  alone-below true range at p = (p, p)
  alone-below false range at p = tt

  pub both_below : (i j : Option Inner) → InnerBelow stop cs ks i → InnerBelow stop cs ks j
      → InnerBelow stop cs ks (both_inner i j)
  both_below None j p q = q
  both_below (Some met) None p q = p
  both_below (Some met) (Some met') p q = (p.0, q.1)
