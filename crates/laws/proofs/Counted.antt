-- The count at depth 0 is at most 1, and at any other depth d at most 4·d − 1: at each level only the node that holds
-- the column's first hour and the one that holds its last can be opened, and node 1 is both. Assumes nothing.
use Rattle.kit.proofs.{◌≡◌, sym, ap, ◌∙◌, true, false, ⊎_elim, ℕ, zero, suc, ◌+◌, ◌-◌, ◌*◌, ◌≤◌, ◌<◌, arith, length}
use Rattle.kit.proofs.{length-append}
use Rattle.signed.proofs.{clash}
use Rattle.words.specs.declared.Column.{Column}
use Rattle.om3.specs.Document.{keep, Node, root, left, right, width, start, Table, nodes_below, no_hour, opened}
use Rattle.om3.specs.Document.{opened_nodes, count_at}
use Rattle.laws.proofs.{Tests.chosen, Tests.by-test, Tests.below_or_not, Intervals.shares-overlap}
use Rattle.laws.proofs.{Intervals.within-inside, BelowOpened.opened-kept, BelowOpened.unopened-kept}
use Rattle.laws.proofs.Opened.{opened-opens, unopened-if, node-cut}

-- Without an hour the count is 0, and so less.
count_at_lem : (l : ℕ) (t : Table) (x : Column) (d : ℕ) → count_at l t x d ≤ 1 + 2 * length (opened_nodes l t x d)
unfolding count_at
count_at_lem l t x d =
    chosen (λ m. m ≤ 1 + 2 * length (opened_nodes l t x d)) (no_hour x) (λ e. omega arith) (λ e. omega arith)

module _ (l : ℕ) (t : Table) (x : Column) (d : ℕ) where
  -- A node before the column, after it or wholly inside it is not opened, nor is one of level d or more.
  module _ (v : Node) where
    before-unopened : start l v + width l v ≤ x.from.0 → opened l t x d v ≡ false
    before-unopened b = unopened-if l t x d v (λ o. omega (arith, (shares-overlap l x v o.sharing).reaches))

    after-unopened : x.upto.0 ≤ start l v → opened l t x d v ≡ false
    after-unopened b = unopened-if l t x d v (λ o. omega (arith, (shares-overlap l x v o.sharing).begins))

    within-unopened : x.from.0 ≤ start l v → start l v + width l v ≤ x.upto.0 → opened l t x d v ≡ false
    within-unopened a b =
        unopened-if l t x d v (λ o. clash (sym o.partly ∙ within-inside l x v (record { after = a; before = b })))

    deep-unopened : d ≤ v.level → opened l t x d v ≡ false
    deep-unopened b = unopened-if l t x d v (λ o. omega (arith, o.shallow))

  -- How many nodes are opened among node v and those below it, h levels in all.
  abbrev opened_below : ℕ → Node → ℕ
  opened_below h v = length (keep (opened l t x d) (nodes_below h v))

  none-opened : (h : ℕ) (v : Node) → v.level + h ≤ suc l → opened l t x d v ≡ false → opened_below h v ≡ 0
  none-opened h v b o = ap length (unopened-kept l t x d h v b o)

  one_more : (h : ℕ) (v : Node) → opened l t x d v ≡ true
      → opened_below (suc h) v ≡ suc (opened_below h (left v) + opened_below h (right v))
  one_more h v o = ap length (opened-kept l t x d h v o) ∙ simp length-append (omega arith)

  module _ (d≤l : d ≤ l) where
    -- To bound what is opened from a node on, the node may be taken as opened, and so as one of a level below d.
    opened-most : (h m : ℕ) (v : Node) → v.level + suc h ≤ suc l
        → (v.level < d → suc (opened_below h (left v) + opened_below h (right v)) ≤ m) → opened_below (suc h) v ≤ m
    opened-most h m v b f =
        by-test (opened l t x d v)
        (λ o. omega (arith, one_more h v o, f (opened-opens l t x d v o).shallow))
        (λ o. omega (arith, none-opened (suc h) v b o))

    -- A node that ends within the column, or before it: at each level at most one node.
    ending-most : (h : ℕ) (v : Node) → v.level + h ≤ suc l → start l v + width l v ≤ x.upto.0
        → opened_below h v ≤ d - v.level
    ending-most zero v b e = unfold nodes_below keep in omega arith
    ending-most (suc h) v b e =
        opened-most h (d - v.level) v b (λ s.
        let c = node-cut l v (omega arith) in
        let b' : suc v.level + h ≤ suc l = omega arith in
        let l' = ending-most h (left v) b' (omega arith) in
        let r' = ending-most h (right v) b' (omega arith) in
        ⊎_elim
        (λ p. omega (arith, none-opened h (left v) b' (before-unopened (left v) (omega arith))))
        (λ p. omega (arith, none-opened h (right v) b' (within-unopened (right v) p (omega arith))))
        (below_or_not (start l (right v)) x.from.0))

    -- A node that starts within the column, or after it: at each level at most one node.
    starting-most : (h : ℕ) (v : Node) → v.level + h ≤ suc l → x.from.0 ≤ start l v → opened_below h v ≤ d - v.level
    starting-most zero v b e = unfold nodes_below keep in omega arith
    starting-most (suc h) v b e =
        opened-most h (d - v.level) v b (λ s.
        let c = node-cut l v (omega arith) in
        let b' : suc v.level + h ≤ suc l = omega arith in
        let l' = starting-most h (left v) b' (omega arith) in
        let r' = starting-most h (right v) b' (omega arith) in
        ⊎_elim
        (λ p. omega (arith, none-opened h (left v) b' (within-unopened (left v) (omega arith) (omega arith))))
        (λ p. omega (arith, none-opened h (right v) b' (after-unopened (right v) p)))
        (below_or_not (start l (right v)) x.upto.0))

    -- Any node: where the column begins in the left half and ends in the right one, the left half ends within it and
    -- the right half starts within it; else only one half has opened nodes.
    any-most : (h : ℕ) (v : Node) → v.level + h ≤ suc l → opened_below h v ≤ 2 * (d - v.level) - 1
    any-most zero v b = unfold nodes_below keep in omega arith
    any-most (suc h) v b =
        opened-most h (2 * (d - v.level) - 1) v b (λ s.
        let c = node-cut l v (omega arith) in
        let b' : suc v.level + h ≤ suc l = omega arith in
        let l' = any-most h (left v) b' in
        let r' = any-most h (right v) b' in
        ⊎_elim
        (λ p. ⊎_elim
        (λ q. omega (arith, none-opened h (left v) b' (before-unopened (left v) (omega arith))))
        (λ q. omega (arith, ending-most h (left v) b' (omega arith), starting-most h (right v) b' q))
        (below_or_not (start l (right v)) x.from.0))
        (λ p. omega (arith, none-opened h (right v) b' (after-unopened (right v) p)))
        (below_or_not (start l (right v)) x.upto.0))

    -- The count at a depth from 1 to l. [columns 9]
    pub count_most : 1 ≤ d → count_at l t x d ≤ 4 * d - 1
    count_most some = omega (arith, count_at_lem l t x d, any-most (suc l) root (omega arith))

-- At depth 0 node 1 alone is visited.
pub count-at-0 : (l : ℕ) (t : Table) (x : Column) → count_at l t x 0 ≤ 1
count-at-0 l t x =
    let none = none-opened l t x 0 (suc l) root (omega arith) (deep-unopened l t x 0 root (omega arith)) in
    omega (arith, count_at_lem l t x 0, none)
