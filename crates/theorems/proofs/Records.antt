-- Demand 2 for the calls of the record: what their contracts say of a record that is read, of one that was written, and
-- of single coefficients. Assumes nothing.
use Rattle.kit.proofs.{◌≡◌, refl, sym, ap, ◌∙◌, false, List, [], ◌∷◌, ◌↔◌, ℕ, ◌+◌, ◌*◌, ◌/◌, ◌≤◌, ◌<◌, arith, ℤ, pos}
use Rattle.kit.proofs.{length, get_or, take, get_or-append, lt-leb, le-ltb, Result, Ok, Err}
use Rattle.words.specs.Said.{opened_as}
use Rattle.words.specs.declared.Refusal.{Refusal}
use Rattle.om3.specs.Document.{Series, levels, P, Table, table_of, HasTable, lent, Check, passes, refuses, and_then}
use Rattle.om3.specs.Document.{in_order, answer_by, table_short, check_room, examine_table, filled, Bytes, record_size}
use Rattle.om3.specs.Document.{record_of, HasRecord, header_size, hours_in, table_in, writing_checks, opening_checks}
use Rattle.om3.specs.Document.{unpacking_checks, opening, asking_view, asking}
use Rattle.sizes.specs.Lent.{Enough}
use Rattle.laws.proofs.{Making.good-some, Lent.coefficients-there, Lent.codes-there, Filled.filled-first}
use Rattle.laws.proofs.{Filled.filled-room, Records.record-size, RecordsOpened.opens-formed}
use Rattle.laws.proofs.{RecordsOpened.asked-unpacked}
use Rattle.laws.proofs.RecordsTaken.{reading-exactly, record-hours, record-table, unpacking-parted, opened-room}
use Rattle.laws.proofs.RecordsTaken.{table-record, made-read}
use Rattle.laws.proofs.Examined.{then-first, then-second, first_absent, examine-sound}
use Rattle.sizes.proofs.{Lent.table-room, TableChecks.decided, TableChecks.passed}
use Rattle.laws.proofs.Demand2 as demand2
use Rattle.opening.proofs.Asked.{opened-asked}
use Rattle.writing.specs.Writing.{RecordWritten}
use Rattle.reading.specs.Reading.{RecordRead}
use Rattle.theorems.proofs.Calls.{filled-has}

-- A call that answers is one whose checks passed.
answered : {A : Type 0} (c : Check) (x y : A) → Ok y ≡ answer_by Err c (Ok x) → (c ≡ passes) × (y ≡ x)
answered passes x y e = (refl, cc)
answered (refuses why) x y e = (cc, cc)

-- Reading, with room lent.
module _ (r : List ℕ) (bytes : Bytes r) (cs : List ℤ) (ks : List ℕ)
    (room : table_short (hours_in r) (lent cs ks) ≡ false) (cs' : List ℤ) (ks' : List ℕ) (u : Result ℕ Refusal)
    (done : RecordRead r cs ks cs' ks' u) where
  -- A record is taken exactly if some series of the hours that it states has it ..
  pub read-exactly : (u ≡ Ok (hours_in r)) ↔ ((s : List ℤ) × Series (hours_in r) s × HasRecord (hours_in r) s r)
  read-exactly =
      let exactly = reading-exactly r bytes (lent cs ks) room in
      let checks = in_order (unpacking_checks r (lent cs ks)) in (
        λ e. exactly.0 (answered checks (hours_in r) (hours_in r) (sym e ∙ done.answer)).0,
        λ h. rw (exactly.1 h) at done.answer,
      )

  -- .. and the table of that series is then written, and nothing after it.
  pub read-writes : (s : List ℤ) → Series (hours_in r) s → HasRecord (hours_in r) s r
      → (cs' ≡ filled (table_of (levels (hours_in r)) (hours_in r) s).coefficients cs)
      × (ks' ≡ filled (table_of (levels (hours_in r)) (hours_in r) s).codes ks)
  read-writes s series has =
      let ok = (reading-exactly r bytes (lent cs ks) room).1 (s, series, has) in
      let t = record-table (hours_in r) r s series has in (
        rw (ok, t) at done.coefficients,
        rw (ok, t) at done.codes,
      )

-- A table that was written: with its hours and its room in order it is sound, so some series has it.
module _ (n : ℕ) (cs : List ℤ) (ks out out' : List ℕ) (b : ℕ) (done : RecordWritten n cs ks out out' (Ok b)) where
  abbrev T : Table
  T = lent cs ks

  written-checks : (in_order (writing_checks n T (length out)) ≡ passes) × (b ≡ record_size n)
  written-checks = answered (in_order (writing_checks n T (length out))) (record_size n) b done.answer

  both_right : Enough n cs ks (length out) (record_size n) × (examine_table n T ≡ passes)
  both_right = passed n cs ks (length out) (record_size n) written-checks.0

  room-right : table_short n T ≡ false
  room-right = table-room n cs ks both_right.0.table

  some-series : (s : List ℤ) × Series n s × HasTable n s T
  some-series =
      let few = good-some n both_right.0.table.good in
      (demand2.sound-exactly n few.0 few.1 T room-right).0 ((examine-sound (levels n) n T).0 both_right.1)

  -- The bytes written are its record.
  written-record : take b out' ≡ record_of n T
  written-record =
      let size = record-size n T room-right ∙ sym written-checks.1 in
      ap (take b) (rw written-checks.0 at done.bytes) ∙ filled-first (record_of n T) out b size

  -- Reading them gives the same table and n.
  pub read-after-write : (cs₁ : List ℤ) (ks₁ : List ℕ) → table_short n (lent cs₁ ks₁) ≡ false
      → (cs₂ : List ℤ) (ks₂ : List ℕ) (u : Result ℕ Refusal) → RecordRead (take b out') cs₁ ks₁ cs₂ ks₂ u
      → (u ≡ Ok n) × (cs₂ ≡ filled (take (P n) cs) cs₁) × (ks₂ ≡ filled (take (P n / 2) ks) ks₁)
  read-after-write cs₁ ks₁ room cs₂ ks₂ u read =
      let s = some-series.0 in
      let series = some-series.1 in
      let has = written-record ∙ table-record n s T some-series.2 in
      let ok = ap (λ (r : List ℕ). in_order (unpacking_checks r (lent cs₁ ks₁))) has
      ∙ made-read n s series (lent cs₁ ks₁) room in
      let t = record-table n (take b out') s series has in (
        rw (ok, record-hours n (take b out') s series has) at read.answer,
        rw (ok, t, ← some-series.2.coefficients) at read.coefficients,
        rw (ok, t, ← some-series.2.codes) at read.codes,
      )

-- A record that was read.
module _ (r : List ℕ) (cs : List ℤ) (ks : List ℕ) (cs' : List ℤ) (ks' : List ℕ) (n : ℕ)
    (done : RecordRead r cs ks cs' ks' (Ok n)) where
  both : (in_order (unpacking_checks r (lent cs ks)) ≡ passes) × (n ≡ hours_in r)
  both = answered (in_order (unpacking_checks r (lent cs ks))) (hours_in r) n done.answer

  abbrev read-checks : in_order (unpacking_checks r (lent cs ks)) ≡ passes
  read-checks = both.0

  abbrev stated-hours : n ≡ hours_in r
  stated-hours = both.1

  abbrev parted : and_then (in_order (opening_checks r))
      (in_order (check_room (table_short (hours_in r) (lent cs ks)) ∷ examine_table (hours_in r) (table_in r) ∷ []))
      ≡ passes
  parted = sym (unpacking-parted r (lent cs ks)) ∙ read-checks

  opens : in_order (opening_checks r) ≡ passes
  opens = then-first (in_order (opening_checks r)) _ parted

  room-lent : table_short (hours_in r) (lent cs ks) ≡ false
  room-lent =
      (first_absent (table_short (hours_in r) (lent cs ks)) Refusal.ShortBuffer _
      (then-second (in_order (opening_checks r)) _ parted)).0

  left-room : (P (hours_in r) ≤ length cs') × (P (hours_in r) / 2 ≤ length ks')
  left-room =
      let k = hours_in r in
      let t = table_in r in
      let room = opened-room r opens in
      let a = rw (sym (rw read-checks at done.coefficients)) at (filled-room t.coefficients cs _ refl) in
      let b = rw (sym (rw read-checks at done.codes)) at (filled-room t.codes ks _ refl) in
      (omega (arith, a, coefficients-there k t room), omega (arith, b, codes-there k t room))

  -- Opening it answers n and P ..
  opened-read : opening r ≡ opened_as n (P n)
  unfolding opening
  opened-read = rw (opens, stated-hours)

  -- .. and a coefficient asked for is the one that was unpacked.
  viewed : (p : ℕ) → p < P n → asking_view r (P n) p ≡ Ok (get_or cs' p (pos 0))
  unfolding asking_view in_order
  viewed p h =
      let h' : p < P (hours_in r) = rw (← stated-hours) h in
      let size = (opens-formed r opens).sized in
      let reached : header_size + 3 * p + 3 ≤ length r = omega (arith, size) in
      let there : p < length (table_in r).coefficients =
      omega (arith, coefficients-there (hours_in r) (table_in r) (opened-room r opens)) in
      let e = rw read-checks at done.coefficients in
      rw (stated-hours, lt-leb (P (hours_in r)) p h', le-ltb (length r) (header_size + 3 * p + 3) reached, e)
      (ap Ok (asked-unpacked r p h' ∙ sym (get_or-append (table_in r).coefficients _ (pos 0) p there)))

  pub asked-read : (p : ℕ) → p < P n → asking r p ≡ Ok (get_or cs' p (pos 0))
  asked-read p h = sym (opened-asked r p n (P n) (sym opened-read)) ∙ viewed p h

  -- Its bytes are bytes.
  module _ (bytes : Bytes r) where
    its-series : (s : List ℤ) × Series (hours_in r) s × HasRecord (hours_in r) s r
    its-series = (reading-exactly r bytes (lent cs ks) room-lent).0 read-checks

    -- The table that reading left has that series too ..
    left-table : (s : List ℤ) → Series (hours_in r) s → HasRecord (hours_in r) s r
        → HasTable (hours_in r) s (lent cs' ks')
    left-table s series has =
        let left = read-writes r bytes cs ks room-lent cs' ks' (Ok n) done s series has in
        filled-has (hours_in r) s cs cs' ks ks' left.0 left.1

    -- .. so writing it is taken.
    write-checks : (out : List ℕ) → length r ≤ length out
        → in_order (writing_checks (hours_in r) (lent cs' ks') (length out)) ≡ passes
    write-checks out fits =
        let k = hours_in r in
        let series = its-series.1 in
        let has = left-table its-series.0 series its-series.2 in
        let w = opens-formed r opens in
        let size = w.sized in
        let room : Enough k cs' ks' (length out) (record_size k) =
        record {
          table = record { good = w.timed; coefficients = left-room.0; codes = left-room.1 };
          buffer = omega arith;
        } in
        decided k cs' ks' (length out) (record_size k) room
        ∙ (examine-sound (levels k) k (lent cs' ks')).1 (demand2.has-sound k its-series.0 (lent cs' ks') series has)

    -- Written again from the table that reading left, it is the same record.
    pub write-after-read : (out out' : List ℕ) (w : Result ℕ Refusal) → length r ≤ length out
        → RecordWritten n cs' ks' out out' w → (w ≡ Ok (length r)) × (out' ≡ filled r out)
    write-after-read out out' w fits written =
        let k = hours_in r in
        let s = its-series.0 in
        let series = its-series.1 in
        let has = left-table s series its-series.2 in
        let size = (opens-formed r opens).sized in
        let again = table-record k s (lent cs' ks') has ∙ sym its-series.2 in
        let ok = write-checks out fits in
        (rw (stated-hours, ok, ← size) at written.answer, rw (stated-hours, ok, again) at written.bytes)
