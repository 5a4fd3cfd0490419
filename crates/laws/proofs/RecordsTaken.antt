-- Reading takes a record exactly if some series has it, and that series is the only one: a record that is taken is that
-- of the table it states, and the table is sound exactly if some series has it. Assumes nothing.
use Rattle.kit.proofs.{◌≡◌, sym, ap, ◌∙◌, true, false, List, [], ◌∷◌, ◌↔◌, ℕ, ◌+◌, ◌*◌, ◌/◌, ◌≤◌, arith, ℤ, take}
use Rattle.words.specs.{largest_hours}
use Rattle.om3.specs.Document.{Series, levels, P, Table, coefficient, code_of_place, table_of, HasTable, turned_back}
use Rattle.om3.specs.Document.{passes, and_then, in_order, sound_table, table_short, check_room, examine_table, Bytes}
use Rattle.om3.specs.Document.{record_of, HasRecord, header_size, hours_in, coefficient_in, table_in, opening_checks}
use Rattle.om3.specs.Document.{unpacking_checks}
use Rattle.laws.proofs.{Lists.map-up-length, Levels.levels-some, Lent.not_short, Making.good-some, Threes.sound-threes}
use Rattle.laws.proofs.{Records.record-hours-in, Records.record-table-in, RecordsOpened.opens-formed}
use Rattle.laws.proofs.{RecordsOpened.record-opens, RecordsForth.part_length, RecordsForth.record-forth}
use Rattle.laws.proofs.Examined.{then-first, then-passes, in-order-append, examine-sound}
use Rattle.laws.proofs.Demand2.{made-has, made-turned, has-sound, turned-series, turned-has}

-- The checks of reading are those of opening, then 3 and 4.
pub unpacking-parted : (r : List ℕ) (lent : Table) → in_order (unpacking_checks r lent)
    ≡ and_then (in_order (opening_checks r))
    (in_order (check_room (table_short (hours_in r) lent) ∷ examine_table (hours_in r) (table_in r) ∷ []))
unpacking-parted r lent = in-order-append (opening_checks r) _

-- With the fields and the room in order, the examination alone decides reading.
reading-decided : (r : List ℕ) → in_order (opening_checks r) ≡ passes → (lent : Table)
    → table_short (hours_in r) lent ≡ false
    → in_order (unpacking_checks r lent) ≡ examine_table (hours_in r) (table_in r)
reading-decided r opens lent room =
    unpacking-parted r lent
    ∙ (unfold in_order in rw (opens, room) (then-passes (examine_table (hours_in r) (table_in r))))

-- A sound table is read back from its record: its coefficients have room in three bytes.
pub record-back : (n : ℕ) (t : Table) → n ≤ largest_hours → table_short n t ≡ false → sound_table (levels n) n t ≡ true
    → table_in (record_of n t) ≡ record { coefficients = take (P n) t.coefficients; codes = take (P n / 2) t.codes }
record-back n t most room ok = record-table-in n t room (sound-threes (levels n) n t (levels-some n) ok) most

-- The table that an opened record states has its places.
pub opened-room : (r : List ℕ) → in_order (opening_checks r) ≡ passes → table_short (hours_in r) (table_in r) ≡ false
unfolding table_in
opened-room r opens =
    let n = hours_in r in
    let w = opens-formed r opens in
    let a = map-up-length (coefficient_in r) 0 (P n) in
    let b = part_length r (header_size + 3 * P n) (P n / 2) (omega (arith, w.sized)) in
    not_short n (table_in r) (omega arith) (omega arith)

-- Of a table only the places needed are written: the record of a table that a series has is that of the series.
pub table-record : (n : ℕ) (s : List ℤ) (t : Table) → HasTable n s t → HasRecord n s (record_of n t)
unfolding record_of
table-record n s t h =
    let made = made-has n s in
    rw (h.coefficients, h.codes, made.coefficients, made.codes)

-- A record that is read: the series that its table turns back to has it.
taken-series : (r : List ℕ) → Bytes r → (lent : Table) → table_short (hours_in r) lent ≡ false
    → in_order (unpacking_checks r lent) ≡ passes → (s : List ℤ) × Series (hours_in r) s × HasRecord (hours_in r) s r
taken-series r bytes lent room h =
    let n = hours_in r in
    let t = table_in r in
    let opens = then-first (in_order (opening_checks r)) _ (sym (unpacking-parted r lent) ∙ h) in
    let good = good-some n (opens-formed r opens).timed in
    let ok = (examine-sound (levels n) n t).0 (sym (reading-decided r opens lent room) ∙ h) in
    let s = turned_back (levels n) t n in
    let has = turned-has n good.0 good.1 t ok (opened-room r opens) in
    (s, turned-series n good.0 good.1 t ok, sym (record-forth r bytes opens) ∙ table-record n s t has)

-- The record of a series: it states the hours and the table of the series, and is read.
module _ (n : ℕ) (s : List ℤ) (series : Series n s) where
  abbrev T : Table
  T = table_of (levels n) n s

  made-room : table_short n T ≡ false
  made-room =
      let a = map-up-length (coefficient (levels n) n s) 0 (P n) in
      let b = map-up-length (code_of_place (levels n) n s) 0 (P n / 2) in
      not_short n T (omega arith) (omega arith)

  made_ok : sound_table (levels n) n T ≡ true
  made_ok = has-sound n s T series (made-has n s)

  made-hours : hours_in (record_of n T) ≡ n
  made-hours = record-hours-in n T series.most

  made_table : table_in (record_of n T) ≡ T
  made_table =
      record-back n T series.most made-room made_ok
      ∙ (λ i. record { coefficients = (made-has n s).coefficients i; codes = (made-has n s).codes i })

  pub made-read : (lent : Table) → table_short n lent ≡ false
      → in_order (unpacking_checks (record_of n T) lent) ≡ passes
  made-read lent room =
      let opens = record-opens n T series.some series.most made-room in
      reading-decided (record_of n T) opens lent (rw made-hours room)
      ∙ rw (made-hours, made_table) ((examine-sound (levels n) n T).1 made_ok)

-- Read exactly if some series of the hours that it states has it.
pub reading-exactly : (r : List ℕ) → Bytes r → (lent : Table) → table_short (hours_in r) lent ≡ false
    → (in_order (unpacking_checks r lent) ≡ passes)
    ↔ ((s : List ℤ) × Series (hours_in r) s × HasRecord (hours_in r) s r)
reading-exactly r bytes lent room = (
  taken-series r bytes lent room,
  λ h. ap (λ (x : List ℕ). in_order (unpacking_checks x lent)) h.2 ∙ made-read (hours_in r) h.0 h.1 lent room,
)

-- A record states the hours and the table of the series that has it, and its table turns back to that series.
module _ (n : ℕ) (r : List ℕ) (s : List ℤ) (series : Series n s) (has : HasRecord n s r) where
  pub record-hours : hours_in r ≡ n
  record-hours = ap hours_in has ∙ made-hours n s series

  pub record-table : table_in r ≡ table_of (levels n) n s
  record-table = ap table_in has ∙ made_table n s series

  record-turned : turned_back (levels n) (table_in r) n ≡ s
  record-turned = rw record-table (made-turned n s series)

-- So only one series, of whatever length, has it.
pub record-series : (n m : ℕ) (r : List ℕ) (s u : List ℤ) → Series n s → HasRecord n s r → Series m u → HasRecord m u r
    → (n ≡ m) × (s ≡ u)
record-series n m r s u a p b q =
    let same : n ≡ m = sym (record-hours n r s a p) ∙ record-hours m r u b q in
    let turned = ap (λ (k : ℕ). turned_back (levels k) (table_in r) k) same in
    (same, sym (record-turned n r s a p) ∙ turned ∙ record-turned m r u b q)
