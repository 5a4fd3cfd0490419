-- Demands 2 and 3 as the boundary tells them, of what its calls promise: what is shown of the calls behind it, with
-- "taken" told as number 0. Assumes nothing.
use Rattle.kit.proofs.{◌≡◌, refl, ap, ◌∙◌, false, List, ◌↔◌, ℕ, ◌≤◌, ℤ, length, take, Ok}
use Rattle.words.specs.{low_of, high_of}
use Rattle.om3.specs.Document.{Series, levels, table_of, HasTable, lent, table_short, filled, making_checks}
use Rattle.om3.specs.Document.{turning_back_checks, HasRecord, hours_in, unpacking_checks, column, column_hours}
use Rattle.om3.specs.Document.{finished, stopped, look_through, count, outer, inner, count_at, Drawn}
use Rattle.laws.proofs.Demand3.{finished-drawn, stopped-drawn}
use Rattle.sizes.specs.Lent.{Enough}
use Rattle.making.specs.Making.{Made}
use Rattle.turning.specs.Turning.{TurnedBack}
use Rattle.reading.specs.Reading.{RecordRead}
use Rattle.told.specs.declared.{tables.Told.Told, records.ToldHours.ToldHours, columns.ToldFinished.ToldFinished}
use Rattle.told.specs.declared.{columns.ToldRanges.ToldRanges}
use Rattle.told.specs.{Tables.taking_told, Records.unpacking_told}
use Rattle.told.specs.Columns.{answer_told, finished_told, stopped_told}
use Rattle.sagivelume.specs.Boundary.{Tells}
use Rattle.theorems.proofs.Calls.{make-writes, made-series, turned-back-after, taken-exactly, writes-series}
use Rattle.theorems.proofs.Records.{read-exactly, read-writes}
use Rattle.theorems.proofs.Refused.{taking-zero, unpacking-zero}

-- Making.
module _ (n : ℕ) (s cs cs' : List ℤ) (ks ks' : List ℕ) (r : Told)
    (done : Tells (Made n s cs ks cs' ks') taking_told r) where
  told-zero : (r.number ≡ 0) ↔ (done.answer ≡ Ok tt)
  told-zero = taking-zero (making_checks n s (lent cs ks)) r done.answer done.tells done.keeps.answer

  taken : r.number ≡ 0 → Made n s cs ks cs' ks' (Ok tt)
  taken zero = rw (told-zero.0 zero) at done.keeps

  pub make-has : r.number ≡ 0 → Series n (take n s) × HasTable n (take n s) (lent cs' ks')
  make-has zero = made-series n s cs cs' ks ks' (taken zero)

  module _ (room : table_short n (lent cs ks) ≡ false) where
    pub make-exactly : (r.number ≡ 0) ↔ Series n (take n s)
    make-exactly = (
      λ zero. (make-has zero).0,
      λ series. told-zero.1 (make-writes n s cs ks series room cs' ks' done.answer done.keeps).0,
    )

    pub make-wrote : Series n (take n s)
        → (let t = table_of (levels n) n (take n s) in
        (cs' ≡ filled t.coefficients cs) × (ks' ≡ filled t.codes ks))
    make-wrote series =
        let w = make-writes n s cs ks series room cs' ks' done.answer done.keeps in
        (w.1, w.2)

  -- The buffers that it wrote, turned back.
  pub turn-back-after : r.number ≡ 0 → (cs₁ out out' : List ℤ) (ks₁ : List ℕ) (t : Told) → cs₁ ≡ cs' → ks₁ ≡ ks'
      → n ≤ length out → Tells (TurnedBack n cs₁ ks₁ out out') taking_told t
      → (t.number ≡ 0) × (out' ≡ filled (take n s) out)
  turn-back-after zero cs₁ out out' ks₁ t same-cs same-ks hours back =
      let turned : TurnedBack n cs' ks' out out' back.answer = rw (same-cs, same-ks) at back.keeps in
      let after = turned-back-after n s cs cs' ks ks' (taken zero) out out' back.answer hours turned in (
        (taking-zero (turning_back_checks n (lent cs₁ ks₁) (length out)) t back.answer back.tells
            back.keeps.answer).1 after.0,
        after.1,
      )

-- Turning back, with hours and room in order.
module _ (n : ℕ) (cs : List ℤ) (ks : List ℕ) (out : List ℤ) (room : Enough n cs ks (length out) n) (out' : List ℤ)
    (r : Told) (done : Tells (TurnedBack n cs ks out out') taking_told r) where
  pub turn-back-exactly : (r.number ≡ 0) ↔ ((s : List ℤ) × Series n s × HasTable n s (lent cs ks))
  turn-back-exactly =
      let checks = turning_back_checks n (lent cs ks) (length out) in
      let zero = taking-zero checks r done.answer done.tells done.keeps.answer in
      let exactly = taken-exactly n cs ks out room out' done.answer done.keeps in
      (λ z. exactly.0 (zero.0 z), λ h. zero.1 (exactly.1 h))

  pub turn-back-writes : (s : List ℤ) → Series n s → HasTable n s (lent cs ks) → out' ≡ filled s out
  turn-back-writes = writes-series n cs ks out room out' done.answer done.keeps

-- Reading, with room lent.
module _ (bs : List ℕ) (cs : List ℤ) (ks : List ℕ) (room : table_short (hours_in bs) (lent cs ks) ≡ false)
    (cs' : List ℤ) (ks' : List ℕ) (r : ToldHours) (done : Tells (RecordRead bs cs ks cs' ks') unpacking_told r) where
  read-zero : (r.number ≡ 0) ↔ (done.answer ≡ Ok (hours_in bs))
  read-zero =
      unpacking-zero (unpacking_checks bs (lent cs ks)) (hours_in bs) r done.answer done.tells done.keeps.answer

  pub record-exactly : (r.number ≡ 0) ↔ ((s : List ℤ) × Series (hours_in bs) s × HasRecord (hours_in bs) s bs)
  record-exactly =
      let exactly = read-exactly bs done.keeps.bytes cs ks room cs' ks' done.answer done.keeps in
      (λ z. exactly.0 (read-zero.0 z), λ h. read-zero.1 (exactly.1 h))

  pub record-hours : r.number ≡ 0 → r.hours ≡ hours_in bs
  record-hours zero = ap (λ (u : ToldHours). u.hours) (done.tells ∙ ap unpacking_told (read-zero.0 zero))

  pub record-writes : (s : List ℤ) → Series (hours_in bs) s → HasRecord (hours_in bs) s bs
      → (let t = table_of (levels (hours_in bs)) (hours_in bs) s in
      (cs' ≡ filled t.coefficients cs) × (ks' ≡ filled t.codes ks))
  record-writes = read-writes bs done.keeps.bytes cs ks room cs' ks' done.answer done.keeps

-- A column of a table that a series has.
module _ (n : ℕ) (s cs : List ℤ) (ks : List ℕ) (series : Series n s) (has : HasTable n s (lent cs ks))
    (a b w k : ℕ) (drawn : Drawn n a b w k) where
  pub finished-fields : (r : ToldFinished) → r ≡ finished_told (finished n (lent cs ks) a b w k)
      → (let x = column a b w k in
      (r.number ≡ 0) × (r.place ≡ 0) × (r.answer ≡ answer_told (look_through n s (column_hours x)))
      × (r.count ≡ count (levels n) (lent cs ks) x))
  finished-fields r told =
      rw (told, finished-drawn n s (lent cs ks) series has a b w k drawn) (refl, refl, refl, refl)

  pub stopped-fields : (d : ℕ) → d ≤ levels n → (r : ToldRanges)
      → r ≡ stopped_told (stopped n (lent cs ks) a b w k d)
      → (let l = levels n in let t = lent cs ks in let x = column a b w k in
      (r.number ≡ 0) × (r.place ≡ 0)
      × (r.outer_low ≡ low_of (outer l t x d)) × (r.outer_high ≡ high_of (outer l t x d))
      × (r.inner_low ≡ low_of (inner l t x d)) × (r.inner_high ≡ high_of (inner l t x d))
      × (r.count ≡ count_at l t x d))
  stopped-fields d deep r told =
      rw (told, stopped-drawn n s (lent cs ks) series has a b w k drawn d deep)
      (refl, refl, refl, refl, refl, refl, refl)

-- A column of a table that was made and is lent again.
module _ (n : ℕ) (s cs cs' : List ℤ) (ks ks' : List ℕ) (r : Told)
    (done : Tells (Made n s cs ks cs' ks') taking_told r) (zero : r.number ≡ 0) where
  pub made_again : (cs₁ : List ℤ) (ks₁ : List ℕ) → cs₁ ≡ cs' → ks₁ ≡ ks'
      → Series n (take n s) × HasTable n (take n s) (lent cs₁ ks₁)
  made_again cs₁ ks₁ same-cs same-ks =
      let has = make-has n s cs cs' ks ks' r done zero in
      (has.0, rw (same-cs, same-ks) has.1)
