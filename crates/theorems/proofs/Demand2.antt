-- Demand 2, the table is OM3's with document 01's rules for gaps, and it can be turned back: of the calls of the
-- boundary as they are shipped. A call has lifetimes κs, its arguments, an answer r and its parameters e as it
-- leaves them; `now` is what a lent buffer holds. Assumes nothing.
use Rattle.kit.proofs.{◌≡◌, false, List, ◌↔◌, ℕ, ◌≤◌, ℤ, length, take}
use Rattle.kit.specs.Calls.{second, third, fourth}
use Rattle.om3.specs.Document.{Series, levels, Table, table_of, HasTable, lent, table_short, filled, Bytes, HasRecord}
use Rattle.om3.specs.Document.{hours_in}
use Rattle.laws.proofs as laws
use Rattle.sizes.specs.Lent.{Enough}
use Rattle.sagivelume.proofs.Clauses as boundary
use Rattle.theorems.proofs.Boundary as told

-- Making.
module _ (κs : _) (n : _) (readings : _) (coefficients : _) (codes : _) (r : _) (e : _)
    (made : boundary.MakePromises κs n readings coefficients codes r e) where
  abbrev s : List ℤ
  s = take n readings.now

  -- With room lent it tells number 0 exactly if the first n numbers lent are a series ..
  make-exactly : table_short n (lent coefficients.now codes.now) ≡ false → (r.number ≡ 0) ↔ Series n s
  make-exactly = told.make-exactly n readings.now _ _ _ _ r made

  -- .. and writes the table of that series, leaving the rest of both buffers.
  make-writes : table_short n (lent coefficients.now codes.now) ≡ false → Series n s
      → (let t = table_of (levels n) n s in
      ((third e).now ≡ filled t.coefficients coefficients.now) × ((fourth e).now ≡ filled t.codes codes.now))
  make-writes = told.make-wrote n readings.now _ _ _ _ r made

  -- After number 0 the buffers hold the table of a series: what HasTable means on these pages, making supplies.
  make-has : r.number ≡ 0 → Series n s × HasTable n s (lent (third e).now (fourth e).now)
  make-has = told.make-has n readings.now _ _ _ _ r made

  -- Lent to turning back, with room for n hours, they give each reading and each gap at its own hour.
  turn-back-after-make : r.number ≡ 0 → (κs' : _) (coefficients' : _) (codes' : _) (hours : _) (r' : _) (e' : _)
      → boundary.TurnBackPromises κs' n coefficients' codes' hours r' e'
      → coefficients'.now ≡ (third e).now → codes'.now ≡ (fourth e).now → n ≤ length hours.now
      → (r'.number ≡ 0) × ((fourth e').now ≡ filled s hours.now)
  turn-back-after-make zero κs' coefficients' codes' hours r' e' back same-coefficients same_codes room =
      told.turn-back-after n readings.now _ _ _ _ r made zero coefficients'.now hours.now (fourth e').now
      codes'.now r' same-coefficients same_codes room back

-- Turning back, for 1 to 16,384 hours and with room lent, tells number 0 exactly if some series of n hours has the
-- table ..
module _ (κs : _) (n : _) (coefficients : _) (codes : _) (hours : _) (r : _) (e : _)
    (turned : boundary.TurnBackPromises κs n coefficients codes hours r e)
    (room : Enough n coefficients.now codes.now (length hours.now) n) where
  turn-back-exactly : (r.number ≡ 0)
      ↔ ((s : List ℤ) × Series n s × HasTable n s (lent coefficients.now codes.now))
  turn-back-exactly = told.turn-back-exactly n _ _ hours.now room (fourth e).now r turned

  -- .. and writes that series, leaving the rest of the buffer ..
  turn-back-writes : (s : List ℤ) → Series n s → HasTable n s (lent coefficients.now codes.now)
      → (fourth e).now ≡ filled s hours.now
  turn-back-writes = told.turn-back-writes n _ _ hours.now room (fourth e).now r turned

-- .. which is the only one.
only-series : (n : ℕ) (t : Table) (s u : List ℤ) → Series n s → HasTable n s t → Series n u → HasTable n u t → s ≡ u
only-series = laws.Demand2.only-series

-- Reading a record.
module _ (κs : _) (bytes : _) (coefficients : _) (codes : _) (r : _) (e : _)
    (read : boundary.ReadRecordPromises κs bytes coefficients codes r e) where
  -- What is lent as bytes are bytes.
  lent-bytes : Bytes bytes.now
  lent-bytes = read.keeps.bytes

  -- With room lent it tells number 0 exactly if some series of the hours that the bytes state has them as its record ..
  module _ (room : table_short (hours_in bytes.now) (lent coefficients.now codes.now) ≡ false) where
    abbrev n : ℕ
    n = hours_in bytes.now

    read-exactly : (r.number ≡ 0) ↔ ((s : List ℤ) × Series n s × HasRecord n s bytes.now)
    read-exactly = told.record-exactly bytes.now _ _ room _ _ r read

    -- .. tells these hours ..
    read-hours : r.number ≡ 0 → r.hours ≡ n
    read-hours = told.record-hours bytes.now _ _ room _ _ r read

    -- .. and writes the table of that series, leaving the rest of both buffers ..
    read-writes : (s : List ℤ) → Series n s → HasRecord n s bytes.now
        → (let t = table_of (levels n) n s in
        ((second e).now ≡ filled t.coefficients coefficients.now)
        × ((third e).now ≡ filled t.codes codes.now))
    read-writes = told.record-writes bytes.now _ _ room _ _ r read

-- .. which is the only one, of whatever length.
one-series : (n m : ℕ) (bs : List ℕ) (s u : List ℤ) → Series n s → HasRecord n s bs → Series m u → HasRecord m u bs
    → (n ≡ m) × (s ≡ u)
one-series = laws.RecordsTaken.record-series
