-- The nodes listed below a node of the tree lie in the tree, and those kept of a list pass the test they are kept by:
-- opened nodes are of a level below the depth, inside nodes have a reading. The non-empty inside visited nodes are
-- those of the inner range at depth l, since an inside node is not opened and shares its hours. Assumes nothing.
use Rattle.kit.proofs.{◌≡◌, refl, sym, ap, fun_ext, ◌∙◌, Bool, true, false, not, ◌&&◌, List, [], ◌∷◌, ℕ, zero, and-true}
use Rattle.kit.proofs.{and-false, suc, ◌+◌, ◌*◌, ◌^◌, ◌≤◌, ◌<◌, two-pow-succ, arith}
use mathlib.Core.Bool.{and_comm}
use Rattle.signed.proofs.{clash}
use Rattle.words.specs.declared.Column.{Column}
use Rattle.om3.specs.Document.{keep, Node, InTree, root, left, right, Table, nodes_below, all_nodes, has_reading}
use Rattle.om3.specs.Document.{shares, inside, opened, visited, opened_nodes, is_inner, inner_nodes, inside_nodes}
use Rattle.laws.proofs.{Tests.and_left, Tests.chosen, Intervals.inside-shares, Opened.opened-opens, Opened.unopened-if}
use Rattle.laws.proofs.{Listed.All, Listed.all_append, Listed.all_map}

-- What is kept of nodes that are all of a kind is of that kind, and passes the test.
all-kept : (P : Node → Type 0) (p : Node → Bool) (vs : List Node) → All P vs
    → All (λ v. P v × (p v ≡ true)) (keep p vs)
unfolding keep
all-kept P p [] a = tt
all-kept P p (v ∷ vs) a =
    let r = all-kept P p vs a.1 in
    chosen (All (λ v. P v × (p v ≡ true))) (p v) (λ e. ((a.0, e), r)) (λ e. r)

below_in : (l h : ℕ) (v : Node) → v.level + h ≤ suc l → v.index < 2 ^ v.level → All (InTree l) (nodes_below h v)
unfolding nodes_below
below_in l zero v b k = tt
below_in l (suc h) v b k =
    let b' : suc v.level + h ≤ suc l = omega arith in
    let L : 2 * v.index < 2 ^ suc v.level = omega (arith, two-pow-succ v.level) in
    let R : 2 * v.index + 1 < 2 ^ suc v.level = omega (arith, two-pow-succ v.level) in (
      record { deep = omega arith; among = k },
      all_append (InTree l) (nodes_below h (left v)) (nodes_below h (right v)) (below_in l h (left v) b' L)
          (below_in l h (right v) b' R),
    )

all_in : (l : ℕ) → All (InTree l) (all_nodes l)
all_in l = below_in l (suc l) root (omega arith) (omega arith)

-- Tests that agree at every node of the tree keep the same of all nodes.
kept-alike : (p q : Node → Bool) (vs : List Node) → All (λ v. p v ≡ q v) vs → keep p vs ≡ keep q vs
unfolding keep
kept-alike p q [] a = refl
kept-alike p q (v ∷ vs) a = rw (a.0, kept-alike p q vs a.1)

pub kept_same : (l : ℕ) (p q : Node → Bool) → ((v : Node) → InTree l v → p v ≡ q v)
    → keep p (all_nodes l) ≡ keep q (all_nodes l)
kept_same l p q same = kept-alike p q (all_nodes l) (all_map (InTree l) (λ v. p v ≡ q v) same (all_nodes l) (all_in l))

-- A node of the tree above its single hours: one that can be examined.
pub record Above (l : ℕ) (v : Node) : Type 0 where
  pub in_tree : InTree l v
  pub above : v.level < l

-- A node of the tree that has a reading.
pub record NonEmpty (l : ℕ) (t : Table) (v : Node) : Type 0 where
  pub in_tree : InTree l v
  pub reading : has_reading l t v ≡ true

module _ (l : ℕ) (t : Table) (x : Column) (d : ℕ) where
  pub opened-above : d ≤ l → All (Above l) (opened_nodes l t x d)
  opened-above deep =
      all_map (λ v. InTree l v × (opened l t x d v ≡ true)) (Above l)
      (λ v p. record { in_tree = p.0; above = omega (arith, (opened-opens l t x d v p.1).shallow) })
      (opened_nodes l t x d) (all-kept (InTree l) (opened l t x d) (all_nodes l) (all_in l))

-- Of an inside node, the tests for the inner range ask beside these only what holds of it.
inside-test : (reads within visits opens shared : Bool) → (within ≡ true → (opens ≡ false) × (shared ≡ true))
    → (reads && within && visits) ≡ (visits && not opens && reads && shared && within)
inside-test reads true visits opens shared f = rw ((f refl).0, (f refl).1) (simp and-true (and_comm reads visits))
inside-test reads false visits opens shared f =
    rw (and-false reads, and-false (visits && not opens && reads && shared))

pub inside-inner : (l : ℕ) (t : Table) (x : Column) → inside_nodes l t x ≡ inner_nodes l t x l
unfolding inside_nodes inner_nodes
inside-inner l t x = ap (λ (p : Node → Bool). keep p (all_nodes l)) (fun_ext (λ v. same v))
  where
    unopened : (v : Node) → inside l x v ≡ true → opened l t x l v ≡ false
    unopened v e = unopened-if l t x l v (λ o. clash (sym o.partly ∙ e))

    same : (v : Node) → (has_reading l t v && inside l x v && visited l t x l v) ≡ is_inner l t x l v
    same v =
        inside-test (has_reading l t v) (inside l x v) (visited l t x l v) (opened l t x l v) (shares l x v)
        (λ e. (unopened v e, inside-shares l x v e))

pub inside-non-empty : (l : ℕ) (t : Table) (x : Column) → All (NonEmpty l t) (inside_nodes l t x)
unfolding inside_nodes
inside-non-empty l t x =
    all_map (λ v. InTree l v × ((has_reading l t v && inside l x v && visited l t x l v) ≡ true)) (NonEmpty l t)
    (λ v p.
    let R = has_reading l t v in
    let I = inside l x v in
    record { in_tree = p.0; reading = and_left R I (and_left (R && I) (visited l t x l v) p.1) })
    (inside_nodes l t x)
    (all-kept (InTree l) (λ v. has_reading l t v && inside l x v && visited l t x l v) (all_nodes l) (all_in l))
