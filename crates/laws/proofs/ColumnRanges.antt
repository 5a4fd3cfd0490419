-- What demand 3 says of the ranges and the counts of a column at its depths, by the laws of the depths. Assumes
-- nothing.
use Rattle.kit.proofs.{true, false, List, ◌≡◌, ℕ, ◌-◌, ◌*◌, ◌^◌, ◌≤◌, le_refl, arith, ℤ}
use Rattle.words.specs.declared.{Timestamp.Timestamp, Column.Column}
use Rattle.om3.specs.Document.{is_gap, Series, levels, hour_of, Table, HasTable, in_column, outer, count, Covers}
use Rattle.om3.specs.Document.{Ranged}
use Rattle.laws.proofs.{Levels.levels-some, Levels.n≤P, Demand2.has-ranges, Intervals.in-column, Counted.count_most}
use Rattle.laws.proofs.{Counted.count-at-0, DepthsLooked.DepthRanges, DepthsLooked.depth-ranges}
use Rattle.laws.proofs.{FinishedAnswers.finished-count}

-- The finished count is at most 6·l − 1.
finished-most : (n : ℕ) (t : Table) (x : Column) → count (levels n) t x ≤ 6 * levels n - 1
finished-most n t x =
    let o = levels-some n in
    finished-count (levels n) t x o (count_most (levels n) t x (levels n) (le_refl (levels n)) o)

-- A table that some series has, and any column of its hours.
module _ (n : ℕ) (s : List ℤ) (t : Table) (series : Series n s) (has : HasTable n s t) (x : Column)
    (ends : x.upto.0 ≤ n) where
  abbrev l : ℕ
  l = levels n

  pub fits : x.upto.0 ≤ 2 ^ levels n
  fits = omega (arith, n≤P n series.most)

  depths : DepthRanges l t x n s
  depths = depth-ranges l t x n s (has-ranges n s t series has)

  all-covered : (d : ℕ) (h : Timestamp) → in_column x h ≡ true → is_gap (hour_of n s h) ≡ false
      → Covers (outer l t x d) (hour_of n s h)
  all-covered d h own reading =
      let c = in-column x h.0 own in
      depths.covers d h.0 (omega (arith, fits)) own reading

  pub column-ranged : Ranged n s t x
  column-ranged =
      record {
        covers = λ d p. all-covered d;
        within = λ d p. depths.within d;
        narrows = λ d e p q. depths.narrows d e p;
        widens = λ d e p q. depths.widens d e p;
        agrees = depths.agrees;
        looks = depths.looks fits;
        at-root = count-at-0 l t x;
        most = λ d some deep. count_most l t x d deep some;
        finished = finished-most n t x;
      }
