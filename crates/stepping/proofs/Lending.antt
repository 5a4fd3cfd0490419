-- What is lent of a table is enough for a step down from each node that is opened, and for its halves. Assumes nothing.
use Rattle.kit.proofs.{◌≡◌, sym, ap, ◌∙◌, List, ℕ, suc, ◌+◌, ◌-◌, ◌*◌, ◌^◌, ◌≤◌, ◌<◌, Option, two-pow-succ}
use Rattle.kit.proofs.{mul-le-mul_right, suc-mul, arith, ℤ, length, pow_pos, pow_mono, pow-add, ltb-true, ltb-false}
use Rattle.words.specs.{largest_hours, Readings}
use Rattle.words.specs.declared.Range.{Range}
use Rattle.om3.specs.Document.{levels, Node, InTree, left, right, start, width}
use Rattle.laws.proofs.Levels.{2≤P, P-even}
use Rattle.node.specs.Located.{Located}
use Rattle.node.proofs.Located.{above-pairs, pair-width, left-located, right-located}
use Rattle.sizes.specs.Lent.{TableLent}
use Rattle.stepping.specs.Nodes.{LentTo, Below, is_pair_of, left_reached, right_reached}
use Rattle.stepping.specs.Stepping.{Steps}
use Rattle.stepping.specs.declared.Reached.{Reached}

-- A table that is lent whole is lent as far as any stop.
pub whole-lent : (n : ℕ) (cs : List ℤ) (ks : List ℕ) → TableLent n cs ks → (stop : ℕ) → LentTo stop (levels n) cs ks
whole-lent n cs ks t stop =
    record {
      root = omega (arith, t.coefficients, 2≤P n);
      details = λ j above wide.
          omega (arith, t.coefficients, pow_mono above, two-pow-succ j, two-pow-succ (suc j));
      codes = λ pairs. omega (arith, t.codes, P-even n);
    }

-- A node of a tree ends no later than the tree does.
node-ends : (l : ℕ) (v : Node) → InTree l v → start l v + width l v ≤ 2 ^ l
unfolding start width
node-ends l v i =
    let w = 2 ^ (l - v.level) in
    let all : v.level + (l - v.level) ≡ l = let d = i.deep in omega arith in
    let e : 2 ^ v.level * w ≡ 2 ^ l = sym (pow-add 2 v.level (l - v.level)) ∙ ap (λ (j : ℕ). 2 ^ j) all in
    omega (arith, suc-mul v.index w, mul-le-mul_right w i.among)

-- A node of a table that is lent so far.
module _ {stop : ℕ} {cs : List ℤ} {ks : List ℕ} {at : Reached} (below : Below stop cs ks at) where
  abbrev v : Node
  v = below.node

  pub some-hours : 1 ≤ at.hours
  unfolding width
  some-hours = omega (arith, below.located.covers, pow_pos (below.levels - v.level))

  pub ends-within : at.from.0 + at.hours ≤ largest_hours
  ends-within =
      let here = below.located in
      omega (arith, node-ends below.levels v here.in_tree, here.begins, here.covers, pow_mono below.most)

  -- Its number is not too large to be doubled.
  pub small-number : at.id.0 + 1 ≤ 2 * largest_hours
  small-number =
      let here = below.located in
      let tree = here.in_tree in
      omega (arith, here.numbered, tree.among, pow_mono tree.deep, pow_mono below.most)

  -- It is opened: its details are there, or its code if it is a pair.
  module _ (wide : stop < at.hours) (two : 2 ≤ at.hours) where
    pair_code : at.hours < 4 → at.from.0 + 2 ≤ 2 * length ks
    pair_code four =
        let here = below.located in
        let pair : at.hours ≡ 2 = pair-width here two four in
        let lent = below.table.codes (omega arith) in
        omega (arith, node-ends below.levels v here.in_tree, here.begins, here.covers)

    own-details : 4 ≤ at.hours → 2 * at.id.0 + 2 ≤ length cs
    unfolding width
    own-details four =
        let here = below.located in
        let lent = below.table.details v.level (above-pairs here four) (omega (arith, here.covers)) in
        omega (arith, here.numbered, here.in_tree.among)

    pub steps : Steps cs ks at.id at.from (is_pair_of at.hours) at.range
    steps =
        record {
          readings = below.readings;
          code = λ pair. pair_code (ltb-true at.hours 4 pair);
          details = λ apart. own-details (ltb-false at.hours 4 apart);
        }

  -- Its halves are nodes of the same table.
  half-below : {half : Reached} (u : Node) → Located below.levels u half.id.0 half.from.0 half.hours
      → Readings half.range → Below stop cs ks half
  half-below u located p =
      record {
        levels = below.levels;
        node = u;
        most = below.most;
        table = below.table;
        located = located;
        readings = p;
      }

  module _ (two : 2 ≤ at.hours) (r : Option Range) (p : Readings r) where
    pub left_below : Below stop cs ks (left_reached at r)
    left_below = half-below (left v) (left-located below.located two) p

    pub right-below : Below stop cs ks (right_reached at r)
    right-below = half-below (right v) (right-located below.located two) p
