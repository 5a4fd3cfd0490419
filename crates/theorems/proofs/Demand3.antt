-- Demand 3, columns drawn from a table that was made from readings, for every l at once: of the calls of the
-- boundary as they are shipped. A call has lifetimes κs, its arguments, an answer r and its parameters e as it
-- leaves them; `now` is what a lent buffer holds. That a table has a series is what making leaves (make-has,
-- Demand2). Assumes nothing.
use Rattle.kit.proofs.{◌≡◌, false, true, map, List, ℕ, ◌-◌, ◌*◌, ◌≤◌, ℤ, take}
use denote.Ref.{Bor}
use Rattle.kit.specs.Calls.{third, fourth}
use Rattle.words.specs.{low_of, high_of}
use Rattle.words.specs.declared.{Timestamp.Timestamp, Column.Column}
use Rattle.om3.specs.Document.{Series, levels, hour_of, is_gap, Table, HasTable, lent, look, column, in_column}
use Rattle.om3.specs.Document.{column_hours, look_through, Covers, LiesWithin, outer, inner, count_at, count, Drawn}
use Rattle.om3.specs.Document.{Ranged}
use Rattle.laws.proofs as laws
use Rattle.told.specs.Columns.{answer_told}
use Rattle.sagivelume.proofs.Clauses as boundary
use Rattle.theorems.proofs.Boundary as told

-- The series s of n hours has the table in the two lent buffers, and column k of the window [a, b) in w columns is
-- drawn.
module _ (n : ℕ) (s : List ℤ) (coefficients : Bor (List ℤ)) (codes : Bor (List ℕ)) (series : Series n s)
    (has : HasTable n s (lent coefficients.now codes.now)) (a b w k : ℕ) (drawn : Drawn n a b w k) where
  abbrev l : ℕ
  l = levels n

  abbrev t : Table
  t = lent coefficients.now codes.now

  abbrev x : Column
  x = column a b w k

  abbrev ranged : Ranged n s t x
  ranged = laws.Demand3.ranged-drawn n s t series has a b w k drawn

  -- Finished, it tells number 0 at 0, what a look through its hours gives, first and last reading with their hours,
  -- lowest and highest, or none, and the defined count, ..
  finished-column : (κs : _) (r : _) (e : _) → boundary.FinishedPromises κs n coefficients codes a b w k r e
      → (r.number ≡ 0) × (r.place ≡ 0) × (r.answer ≡ answer_told (look_through n s (column_hours x)))
      × (r.count ≡ count l t x)
  finished-column κs r e = told.finished-fields n s _ _ series has a b w k drawn r

  -- .. which is at most 6·l − 1.
  finished-count : count l t x ≤ 6 * l - 1
  finished-count = ranged.finished

  -- Stopped at a depth d up to l, it tells number 0 at 0, the outer range, the inner range and the defined count.
  stopped-column : (d : ℕ) → d ≤ l → (κs : _) (r : _) (e : _)
      → boundary.StoppedPromises κs n coefficients codes a b w k d r e
      → (r.number ≡ 0) × (r.place ≡ 0)
      × (r.outer_low ≡ low_of (outer l t x d)) × (r.outer_high ≡ high_of (outer l t x d))
      × (r.inner_low ≡ low_of (inner l t x d)) × (r.inner_high ≡ high_of (inner l t x d))
      × (r.count ≡ count_at l t x d)
  stopped-column d deep κs r e = told.stopped-fields n s _ _ series has a b w k drawn d deep r

  -- The outer range holds every reading of the column, ..
  outer-holds : (d : ℕ) → d ≤ l → (h : Timestamp) → in_column x h ≡ true → is_gap (hour_of n s h) ≡ false
      → Covers (outer l t x d) (hour_of n s h)
  outer-holds = ranged.covers

  -- .. the inner lies between its lowest and its highest, ..
  inner-within : (d : ℕ) → d ≤ l → LiesWithin (inner l t x d) (look (map (hour_of n s) (column_hours x)))
  inner-within = ranged.within

  -- .. a deeper stop never widens the outer range ..
  outer-narrows : (d e : ℕ) → d ≤ e → e ≤ l → LiesWithin (outer l t x e) (outer l t x d)
  outer-narrows = ranged.narrows

  -- .. or narrows the inner one, ..
  inner-widens : (d e : ℕ) → d ≤ e → e ≤ l → LiesWithin (inner l t x d) (inner l t x e)
  inner-widens = ranged.widens

  -- .. and at depth l the two agree: from the column's lowest reading to its highest, absent if it has none. An absent
  -- range counts as empty: it holds no reading, lies within any range, and nothing but another lies within it.
  ranges-agree : (outer l t x l ≡ inner l t x l) × (inner l t x l ≡ look (map (hour_of n s) (column_hours x)))
  ranges-agree = (ranged.agrees, ranged.looks)

  -- The count is at most 1 at depth 0, and at most 4·d − 1 at any other depth d.
  stopped-count : (count_at l t x 0 ≤ 1) × ((d : ℕ) → 1 ≤ d → d ≤ l → count_at l t x d ≤ 4 * d - 1)
  stopped-count = (ranged.at-root, ranged.most)

-- So it is after making, whenever the buffers that it left are lent: a finished column tells the look through the hours
-- of the readings that were made into the table.
module _ (κs : _) (n : _) (readings : _) (coefficients : _) (codes : _) (m : _) (e : _)
    (made : boundary.MakePromises κs n readings coefficients codes m e) (zero : m.number ≡ 0) where
  finished-after-make : (κs' : _) (coefficients' : _) (codes' : _) (a : _) (b : _) (w : _) (k : _) (r : _) (e' : _)
      → boundary.FinishedPromises κs' n coefficients' codes' a b w k r e'
      → coefficients'.now ≡ (third e).now → codes'.now ≡ (fourth e).now → Drawn n a b w k
      → (let x = column a b w k in
      (r.number ≡ 0) × (r.place ≡ 0)
      × (r.answer ≡ answer_told (look_through n (take n readings.now) (column_hours x)))
      × (r.count ≡ count (levels n) (lent coefficients'.now codes'.now) x))
  finished-after-make κs' coefficients' codes' a b w k r e' asked same-coefficients same_codes drawn =
      let again = told.made_again n readings.now _ _ _ _ m made zero _ _ same-coefficients same_codes in
      told.finished-fields n _ _ _ again.0 again.1 a b w k drawn r asked
