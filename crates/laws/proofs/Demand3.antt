-- Demand 3: from a table that some series has, a finished column answers what a look through its hours gives, a column
-- stopped at a depth its two ranges and its count. The checks pass, since such a table is long enough and sound.
-- Assumes nothing.
use Rattle.kit.proofs.{◌≡◌, List, [], ◌∷◌, ℕ, ◌+◌, ◌≤◌, arith, ℤ, le-ltb}
use Rattle.words.specs.Said.{finished_as, stopped_as}
use Rattle.words.specs.declared.{Column.Column}
use Rattle.om3.specs.Document.{Series, levels, Table, HasTable, in_order, check_depth, column, column_hours}
use Rattle.om3.specs.Document.{opened_nodes, count_at, outer, inner, examine_column, stopped, answer, count}
use Rattle.om3.specs.Document.{finished_nodes, finished, look_through, Drawn, Ranged}
use Rattle.laws.proofs.{Demand2.has-sound, Demand2.has-ranges, Edges.edge-mono, Windows.column-before}
use Rattle.laws.proofs.{FinishedAnswers.finished-looks, NeverRefused.opened-passes, NeverRefused.finished-passes}
use Rattle.laws.proofs.{ColumnChecks.columns-pass, ColumnRanges.fits, ColumnRanges.column-ranged}

module _ (n : ℕ) (s : List ℤ) (t : Table) (series : Series n s) (has : HasTable n s t) where
  abbrev l : ℕ
  l = levels n

  -- Any column of the hours of the series, with an hour or without.
  pub column-seen : (x : Column) → x.from.0 ≤ x.upto.0 → x.upto.0 ≤ n
      → answer l t x ≡ look_through n s (column_hours x)
  column-seen x some ends =
      finished-looks l n s t (has-ranges n s t series has) x some (fits n s t series has x ends)

  -- Column k of a window in w columns.
  module _ (a b w k : ℕ) (drawn : Drawn n a b w k) where
    abbrev x : Column
    x = column a b w k

    column-some : x.from.0 ≤ x.upto.0
    column-some = edge-mono a b w drawn.some k (k + 1) (omega arith)

    column-ends : x.upto.0 ≤ n
    column-ends =
        let o = drawn.ordered in
        let e = drawn.ends in
        omega (arith, column-before a b w drawn.some (omega arith) k drawn.below)

    -- Finished, it answers what a look through its hours gives.
    pub finished-drawn : (let x = column a b w k in
        finished n t a b w k ≡ finished_as (look_through n s (column_hours x)) (count (levels n) t x))
    unfolding finished in_order
    finished-drawn =
        let four = examine_column l t x n (finished_nodes l t x) in
        let ok = finished-passes l n t (has-sound n s t series has) x in
        rw (columns-pass n s t series has a b w k drawn (four ∷ []) (rw ok), column-seen x column-some column-ends)

    -- Stopped at a depth up to l, it answers two ranges and a count.
    pub stopped-drawn : (d : ℕ) → d ≤ levels n
        → (let l = levels n in let x = column a b w k in
        stopped n t a b w k d ≡ stopped_as (outer l t x d) (inner l t x d) (count_at l t x d))
    unfolding stopped in_order
    stopped-drawn d deep =
        let ok = opened-passes l n t (has-sound n s t series has) x d deep in
        let rest = check_depth n d ∷ examine_column l t x n (opened_nodes l t x d) ∷ [] in
        rw (columns-pass n s t series has a b w k drawn rest (rw (le-ltb l d deep, ok)))

    pub ranged-drawn : Ranged n s t (column a b w k)
    ranged-drawn = column-ranged n s t series has x column-ends
