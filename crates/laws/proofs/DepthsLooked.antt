-- Where the ranges reached in a table are those of a series' hours, the outer range of a column at any depth covers
-- each reading of the column, the inner range lies within what a look through its hours gives, and at depth l both are
-- that. Assumes nothing.
use Rattle.kit.proofs.{◌≡◌, true, false, List, map, ⊎_elim, ℕ, ◌+◌, ◌-◌, ◌^◌, ◌≤◌, ◌<◌, arith, ℤ, Option}
use Rattle.words.specs.declared.{Column.Column, Range.Range}
use Rattle.om3.specs.Document.{is_gap, hour, hour_of, Node, InTree, left, right, width, start, hours, look, range_of}
use Rattle.om3.specs.Document.{Table, reached, in_column, column_hours, inside, outer, inner, Covers, LiesWithin}
use Rattle.laws.proofs.{Tests.below_or_not, Tests.chosen, Ranges.range-halves, Opened.node-cut}
use Rattle.laws.proofs.{RangesBelow.outer-unopened, RangesBelow.inner-unopened, RangesWithin.hours-cover}
use Rattle.laws.proofs.{RangesWithin.hours-within}
use Rattle.laws.proofs.EachVisited.{AtEnds, GoingOn, root-visited}
use Rattle.laws.proofs.Nodes.{left_in, right-in, start-root, width-root}
use Rattle.laws.proofs.Intervals.{Within, in-column, column-in, overlap-shares, inside-within}
use Rattle.laws.proofs.RangesBelow.{outer_below, inner_below, outer-root, inner-root, outer-opened, inner-opened}
use Rattle.laws.proofs.RangesWithin.{within_same, both-within, first-covers, second-covers}
use Rattle.laws.proofs.Depths.{Joins, inner-widens, outer-narrows, depth-agrees}

-- The two ranges of column x at the depths of a table t of l levels, against the series s of n hours. The
-- depths need not be at most l.
pub record DepthRanges (l : ℕ) (t : Table) (x : Column) (n : ℕ) (s : List ℤ) : Type 0 where
  pub covers : (d k : ℕ) → k < 2 ^ l → in_column x (hour k) ≡ true → is_gap (hour_of n s (hour k)) ≡ false
      → Covers (outer l t x d) (hour_of n s (hour k))
  pub within : (d : ℕ) → LiesWithin (inner l t x d) (look (map (hour_of n s) (column_hours x)))
  pub narrows : (d e : ℕ) → d ≤ e → LiesWithin (outer l t x e) (outer l t x d)
  pub widens : (d e : ℕ) → d ≤ e → LiesWithin (inner l t x d) (inner l t x e)
  pub agrees : outer l t x l ≡ inner l t x l
  pub looks : x.upto.0 ≤ 2 ^ l → inner l t x l ≡ look (map (hour_of n s) (column_hours x))

module _ (l : ℕ) (t : Table) (x : Column) (n : ℕ) (s : List ℤ)
    (ranges : (v : Node) → InTree l v → reached l t v ≡ range_of l n s v) where
  -- The hours of a node are those of its halves.
  ranges-join : Joins l t
  ranges-join v i b =
      rw (ranges v i, ranges (left v) (left_in i b), ranges (right v) (right-in i b)) (range-halves l n s v b)

  -- One reading of the column.
  module _ (d k : ℕ) (b : k < 2 ^ l) (own : in_column x (hour k) ≡ true)
      (reading : is_gap (hour_of n s (hour k)) ≡ false)
    where
      abbrev z : ℤ
      z = hour_of n s (hour k)

      -- It is covered by what comes from a visited node that covers its hour.
      abbrev Covered : ℕ → Node → Type 0
      Covered h v = start l v ≤ k → k < start l v + width l v → Covers (outer_below l t x d h v) z

      covered-ends : AtEnds l t x d Covered
      covered-ends h v q i m o f g =
          let c = in-column x k own in
          let y = overlap-shares l x v (record { reaches = omega arith; begins = omega arith; some = omega arith }) in
          rw (outer-unopened l t x d h v q m o, y, ranges v i)
          (unfold range_of hours in hours-cover n s k reading (start l v) (width l v) f g)

      covered-goes : GoingOn l t x d Covered
      covered-goes h v c i o p q f g =
          let cut = node-cut l v c in
          let L = outer_below l t x d h (left v) in
          let R = outer_below l t x d h (right v) in
          rw (outer-opened l t x d h v o)
          (⊎_elim (λ y. first-covers z L R (p (omega arith) (omega arith)))
          (λ y. second-covers z L R (q y (omega arith)))
          (below_or_not k (start l (right v))))

      -- The outer range covers each reading of the column.
      outer-covers : Covers (outer l t x d) (hour_of n s (hour k))
      outer-covers =
          rw (outer-root l t x d)
          (root-visited l t x d Covered covered-ends covered-goes (omega (arith, start-root l))
          (omega (arith, start-root l, width-root l)))

  -- What a look through the column's hours gives.
  abbrev looked : Option Range
  looked = look (map (hour_of n s) (column_hours x))

  node-within : (v : Node) → InTree l v → Within x (start l v) (width l v) → LiesWithin (reached l t v) looked
  unfolding range_of hours
  node-within v i w =
      rw (ranges v i)
      (hours-within n s looked (start l v) (width l v)
      (λ k a b g.
      hours-cover n s k g x.from.0 (x.upto.0 - x.from.0) (omega arith) (omega arith)))

  module _ (d : ℕ) where
    abbrev InLooked : ℕ → Node → Type 0
    InLooked h v = LiesWithin (inner_below l t x d h v) looked

    looked-ends : AtEnds l t x d InLooked
    looked-ends h v q i m o =
        rw (inner-unopened l t x d h v q m o)
        (chosen (λ r. LiesWithin r looked) (inside l x v) (λ p. node-within v i (inside-within l x v p)) (λ p. tt))

    looked-goes : GoingOn l t x d InLooked
    looked-goes h v b i o p q =
        rw (inner-opened l t x d h v o)
        (both-within (inner_below l t x d h (left v)) (inner_below l t x d h (right v)) looked p q)

    -- The inner range lies within the lowest and the highest reading of the column.
    inner-within : LiesWithin (inner l t x d) (look (map (hour_of n s) (column_hours x)))
    inner-within = rw (inner-root l t x d) (root-visited l t x d InLooked looked-ends looked-goes)

  -- At depth l the inner range, and so the outer one, is that of the lowest and the highest reading of the column.
  depth-looks : x.upto.0 ≤ 2 ^ l → inner l t x l ≡ look (map (hour_of n s) (column_hours x))
  depth-looks m =
      within_same (inner l t x l) looked (inner-within l)
      (hours-within n s (inner l t x l) x.from.0 (x.upto.0 - x.from.0)
      (λ k a b g.
      rw (← depth-agrees l t x) (outer-covers l k (omega arith) (column-in x k a (omega arith)) g)))

  pub depth-ranges : DepthRanges l t x n s
  depth-ranges =
      record {
        covers = outer-covers;
        within = inner-within;
        narrows = outer-narrows l t x ranges-join;
        widens = inner-widens l t x;
        agrees = depth-agrees l t x;
        looks = depth-looks;
      }
