-- To show something of every visited node it is enough to show it of the visited nodes that are not opened, and of an
-- opened node whose halves have it; single hours are never opened. Assumes nothing.
use Rattle.kit.proofs.{◌≡◌, sym, ◌∙◌, true, false, ⊎_elim, ℕ, zero, suc, ◌+◌, ◌≤◌, ◌<◌, eq-or-lt_of_le, zero-add, arith}
use Rattle.signed.proofs.{clash}
use Rattle.words.specs.declared.Column.{Column}
use Rattle.om3.specs.Document.{Node, InTree, root, left, right, Table, has_reading, shares, inside, opened, visited}
use Rattle.laws.proofs.{Tests.by-test, Opened.opened-opens, Opened.opens-opened, Opened.unopened-if}
use Rattle.laws.proofs.Nodes.{root_in, left_in, right-in, width-hour}
use Rattle.laws.proofs.Intervals.{shares-overlap, within-inside}
use Rattle.laws.proofs.BelowOpened.{visited-left, visited-right, visited-root}

module _ (l : ℕ) (x : Column) (v : Node) where
  -- A single hour that shares an hour with the column lies wholly inside it.
  hour-inside : v.level ≡ l → shares l x v ≡ true → inside l x v ≡ true
  hour-inside z e =
      let o = shares-overlap l x v e in
      let w = width-hour l v z in
      within-inside l x v (record { after = omega arith; before = omega arith })

module _ (l : ℕ) (t : Table) (x : Column) where
  hour-unopened : (d : ℕ) (v : Node) → v.level ≡ l → opened l t x d v ≡ false
  hour-unopened d v z = unopened-if l t x d v (λ o. clash (sym o.partly ∙ hour-inside l x v z o.sharing))

  -- At depth l a node of the tree that has a reading and shares an hour with the column is opened, or lies wholly
  -- inside it.
  pub opened-or-inside : (v : Node) → InTree l v → has_reading l t v ≡ true → shares l x v ≡ true
      → inside l x v ≡ false → opened l t x l v ≡ true
  opened-or-inside v i r h p =
      ⊎_elim (λ z. clash (sym p ∙ hour-inside l x v z h))
      (λ b. opens-opened l t x l v (record { reading = r; sharing = h; partly = p; shallow = b }))
      (eq-or-lt_of_le i.deep)

  -- What is opened at a depth is opened at each greater one.
  pub opened-deeper : (d e : ℕ) → d ≤ e → (v : Node) → opened l t x d v ≡ true → opened l t x e v ≡ true
  opened-deeper d e le v p =
      let o = opened-opens l t x d v p in
      opens-opened l t x e v
      (record { reading = o.reading; sharing = o.sharing; partly = o.partly; shallow = omega arith })

-- P h v is what is to be shown of node v, below which there are h levels: of a node where the visit ends, and of one
-- where it goes on.
module _ (l : ℕ) (t : Table) (x : Column) (d : ℕ) (P : ℕ → Node → Type 0) where
  abbrev pub AtEnds : Type 0
  AtEnds =
      (h : ℕ) (v : Node) → v.level + h ≡ l → InTree l v → visited l t x d v ≡ true → opened l t x d v ≡ false → P h v

  abbrev pub GoingOn : Type 0
  GoingOn =
      (h : ℕ) (v : Node) → v.level < l → InTree l v → opened l t x d v ≡ true → P h (left v) → P h (right v)
      → P (suc h) v

module _ (l : ℕ) (t : Table) (x : Column) (d : ℕ) (P : ℕ → Node → Type 0) (ends : AtEnds l t x d P)
    (goes : GoingOn l t x d P) where
  -- At any visited node; at node 1.
  pub each-visited : (h : ℕ) (v : Node) → v.level + h ≡ l → InTree l v → visited l t x d v ≡ true → P h v
  each-visited zero v e i m = ends zero v e i m (hour-unopened l t x d v (omega arith))
  each-visited (suc h) v e i m =
      let b : v.level < l = omega arith in
      let e' : suc v.level + h ≡ l = omega arith in
      by-test (opened l t x d v)
      (λ o.
      goes h v b i o (each-visited h (left v) e' (left_in i b) (visited-left l t x d v ∙ o))
      (each-visited h (right v) e' (right-in i b) (visited-right l t x d v ∙ o)))
      (ends (suc h) v e i m)

  pub root-visited : P l root
  root-visited = each-visited l root (zero-add l) (root_in l) (visited-root l t x d)
