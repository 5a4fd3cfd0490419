-- Demand 3: when a column is drawn, and how its answers at each depth compare with the series. Assumes nothing.
--
--   Drawn n a b w k   checks 5 and 6 pass: a window of n hours, and one of its columns
--   Ranged n s t x    how the ranges and counts of column x, in a table t of n hours, compare with the series s
use Rattle.std.specs.Prelude.{◌≡◌, true, false, List, map, ℕ, ◌-◌, ◌*◌, ◌≤◌, ◌<◌, ℤ}
use Rattle.words.specs.Constants.{most_columns}
use Rattle.words.specs.declared.Timestamp.{Timestamp}
use Rattle.words.specs.declared.Column.{Column}
use Rattle.om3.specs.Series.{is_gap, levels, hour_of}
use Rattle.om3.specs.Ranges.{look}
use Rattle.om3.specs.Table.{Table}
use Rattle.om3.specs.Columns.{in_column, column_hours}
use Rattle.om3.specs.Stopped.{count_at, outer, inner}
use Rattle.om3.specs.Finished.{count}
use Rattle.om3.specs.Looked.{Covers, LiesWithin}

-- Column k of the window [a, b) of n hours in w columns, as checks 5 and 6 let it pass. [refusals 5, 6]
pub record Drawn (n a b w k : ℕ) : Type 0 where
  pub ordered : a < b
  pub ends : b ≤ n
  pub some : 1 ≤ w
  pub most : w ≤ most_columns
  pub below : k < w

-- The ranges and the count of column x at the depths up to l, against the series s of n hours.
pub record Ranged (n : ℕ) (s : List ℤ) (t : Table) (x : Column) : Type 0 where
  -- At any depth the outer range holds every reading of the column.
  pub covers : (d : ℕ) → d ≤ levels n → (h : Timestamp) → in_column x h ≡ true → is_gap (hour_of n s h) ≡ false
      → Covers (outer (levels n) t x d) (hour_of n s h)
  -- At any depth the inner range lies between the column's lowest and its highest reading.
  pub within : (d : ℕ) → d ≤ levels n
      → LiesWithin (inner (levels n) t x d) (look (map (hour_of n s) (column_hours x)))
  -- A deeper stop never widens the outer range ..
  pub narrows : (d e : ℕ) → d ≤ e → e ≤ levels n → LiesWithin (outer (levels n) t x e) (outer (levels n) t x d)
  -- .. nor narrows the inner one.
  pub widens : (d e : ℕ) → d ≤ e → e ≤ levels n → LiesWithin (inner (levels n) t x d) (inner (levels n) t x e)
  -- At depth l the two agree: each goes from the column's lowest reading to its highest, and is absent if it has none.
  pub agrees : outer (levels n) t x (levels n) ≡ inner (levels n) t x (levels n)
  pub looks : inner (levels n) t x (levels n) ≡ look (map (hour_of n s) (column_hours x))
  -- At depth 0 at most one node, at any other depth d at most 4·d − 1. [columns 9]
  pub at-root : count_at (levels n) t x 0 ≤ 1
  pub most : (d : ℕ) → 1 ≤ d → d ≤ levels n → count_at (levels n) t x d ≤ 4 * d - 1
  -- Finished, at most 6·l − 1.
  pub finished : count (levels n) t x ≤ 6 * levels n - 1
