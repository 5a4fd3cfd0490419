-- Days, from a table that some series has: the change of a day is what a look through its hours and a look through
-- the hours before it give, and is from −2,000,000 to 2,000,000; the changes of all days add up to the series' last
-- reading minus its first. Assumes nothing.
use Rattle.kit.proofs.{◌≡◌, refl, sym, ap, ap₂, ◌∙◌, Bool, true, false, cond, List, [], ◌∷◌, map, ℕ, zero, suc, ◌+◌}
use Rattle.kit.proofs.{None, Option, Some, ◌-◌, ◌*◌, ◌≤◌, ◌<◌, min, add-zero, arith, ltb, ltb-true, ltb-false, eqb, ℤ}
use Rattle.kit.proofs.{pos, neg_ℤ, ◌+ℤ◌, ◌-ℤ◌, ◌≤ℤ◌}
use Rattle.words.specs.Said.{held}
use Rattle.words.specs.declared.Summary.{Summary}
use Rattle.signed.proofs.{signed, add_parts, sub_parts}
use Rattle.words.specs.{day_hours, largest_reading, Readings, declared.Timestamp.Timestamp}
use Rattle.om3.specs.Document.{total, up_from, keep, Series, levels, is_gap, hour_of, hours_from, Table, HasTable}
use Rattle.om3.specs.Document.{passes, in_order, column_hours, examine_column, answer, finished_nodes, joined, day}
use Rattle.om3.specs.Document.{before, change_of, examine_before, day_change, days_of, added_by, span_of, reading_of}
use Rattle.om3.specs.Document.{look_through}
use Rattle.laws.proofs.{Ranges.readings-at, Demand2.has-sound, Answers.day-hours, NeverRefused.finished-passes}
use Rattle.laws.proofs.{NeverRefused.hour-or-passes, ColumnChecks.day-passes, Demand3.column-seen}
use Rattle.laws.proofs.LookedThrough.{answer_one, hour_answer, look-through-none, look-through-more, look-through-cut}

-- What a look through day d, and a look through the hours before it, give.
abbrev pub look_on : (n : ℕ) → List ℤ → ℕ → Option Summary
look_on n s d = look_through n s (column_hours (day n d))

abbrev pub look_before : (n : ℕ) → List ℤ → ℕ → Option Summary
look_before n s d = look_through n s (column_hours (before d))

-- The change of a day is by these two looks.
module _ (n : ℕ) (s : List ℤ) (t : Table) (series : Series n s) (has : HasTable n s t) (d : ℕ) where
  before-passes : (own : Option Summary) → examine_before n t d own ≡ passes
  before-passes None = refl
  before-passes (Some own) =
      hour-or-passes (eqb d 0) _ (finished-passes (levels n) n t (has-sound n s t series has) (before d))

  pub day-drawn : day_hours * d < n → day_change n t d ≡ change_of (look_before n s d) (look_on n s d)
  unfolding day_change in_order
  day-drawn h =
      let l = levels n in
      let x = day n d in
      let hours = day-hours n d h in
      let own = examine_before n t d (answer l t x) in
      let four = examine_column l t x n (finished_nodes l t x) in
      let ok = finished-passes l n t (has-sound n s t series has) x in
      rw (day-passes n s t series has d h (four ∷ own ∷ []) (rw (ok, before-passes (answer l t x))))
      (ap₂ change_of (column-seen n s t series has (before d) (omega arith) (omega arith))
      (column-seen n s t series has x (omega (arith, hours.0)) hours.1))

-- An answer of earlier hours joined with that of a day: its span has grown by the day's change.
span-joined : (earlier own : Option Summary)
    → span_of (joined earlier own) ≡ span_of earlier +ℤ added_by (change_of earlier own)
span-joined None None = refl
span-joined None (Some own) =
    let z = own.last.grams -ℤ own.first.grams in
    omega (signed, add_parts (pos 0) z)
span-joined (Some earlier) None =
    let z = earlier.last.grams -ℤ earlier.first.grams in
    omega (signed, add_parts z (pos 0))
span-joined (Some earlier) (Some own) =
    let a = earlier.first.grams in
    let b = earlier.last.grams in
    let c = own.last.grams in
    omega (signed, sub_parts c a, sub_parts b a, sub_parts c b, add_parts (b -ℤ a) (c -ℤ b))

-- The days one after the other, whoever tells their changes.
module _ (n : ℕ) (s : List ℤ) (added : ℕ → ℤ)
    (by-looks : (d : ℕ) → day_hours * d < n → added d ≡ added_by (change_of (look_before n s d) (look_on n s d))) where
  -- The look through all days before day d.
  abbrev up_to : ℕ → Option Summary
  up_to d = look_through n s (hours_from 0 (min (day_hours * d) n))

  next-day : (d : ℕ) → day_hours * d < n → span_of (up_to (d + 1)) ≡ span_of (up_to d) +ℤ added d
  next-day d h =
      let e : min (day_hours * (d + 1)) n ≡ (day n d).upto.0 - 0 = omega arith in
      let f : min (day_hours * d) n ≡ day_hours * d - 0 = omega arith in
      let cut = look-through-cut n s 0 (day_hours * d) (day n d).upto.0 (omega arith) (omega arith) in
      rw (e, f, cut, by-looks d h) (span-joined (look_before n s d) (look_on n s d))

  past_end : (d : ℕ) → n ≤ day_hours * d → span_of (up_to (d + 1)) ≡ span_of (up_to d)
  past_end d h =
      let e : min (day_hours * (d + 1)) n ≡ min (day_hours * d) n = omega arith in
      rw e

  -- c days from day d on, those counted that begin before hour n.
  abbrev added-from : (d c : ℕ) → ℤ
  added-from d c = total (map added (keep (λ k. ltb (day_hours * k) n) (up_from d c)))

  add-up-from : (c d : ℕ) → span_of (up_to (d + c)) ≡ span_of (up_to d) +ℤ added-from d c
  unfolding up_from keep
  add-up-from zero d = rw (add-zero d) (omega (signed, add_parts (span_of (up_to d)) (pos 0)))
  add-up-from (suc c) d =
      let e : d + suc c ≡ d + 1 + c = omega arith in
      rw e (add-up-from c (d + 1) ∙ first-day (ltb (day_hours * d) n) refl)
    where
      rest : List ℕ
      rest = keep (λ k. ltb (day_hours * k) n) (up_from (d + 1) c)

      first-day : (b : Bool) → ltb (day_hours * d) n ≡ b
          → span_of (up_to (d + 1)) +ℤ total (map added rest)
          ≡ span_of (up_to d) +ℤ total (map added (cond b (d ∷ rest) rest))
      first-day true t =
          let x = span_of (up_to d) in
          let y = total (map added rest) in
          rw (next-day d (ltb-true _ _ t))
          (omega (
            signed,
            add_parts x (added d),
            add_parts (x +ℤ added d) y,
            add_parts (added d) y,
            add_parts x (added d +ℤ y),
          ))
      first-day false t = rw (past_end d (ltb-false _ _ t))

  zero-min : (m : ℕ) → min 0 m ≡ 0
  zero-min m = omega arith

  pub days-add-up : total (map added (days_of n)) ≡ span_of (look_through n s (hours_from 0 n))
  unfolding up_from
  days-add-up =
      let e : min (day_hours * (0 + n)) n ≡ n = omega arith in
      let from-0 = add-up-from n 0 in
      let none : span_of (up_to 0) ≡ pos 0 = rw (zero-min n) (ap span_of (look-through-none n s)) in
      let all = total (map added (days_of n)) in
      sym (rw e at from-0 ∙ rw none (omega (signed, add_parts (pos 0) all)))

-- The first and the last reading of an answer are readings.
abbrev OfReadings : Option Summary → Type 0
OfReadings None = Unit
OfReadings (Some a) =
    Readings (held a.first.grams a.first.grams) × Readings (held a.last.grams a.last.grams)

joined-of-readings : (a b : Option Summary) → OfReadings a → OfReadings b → OfReadings (joined a b)
joined-of-readings None b p q = q
joined-of-readings (Some a) None p q = p
joined-of-readings (Some a) (Some b) p q = (p.0, q.1)

-- The difference of two readings.
change-of-readings : (earlier own : Option Summary) → OfReadings earlier → OfReadings own
    → (neg_ℤ (pos (2 * largest_reading)) ≤ℤ added_by (change_of earlier own))
    × (added_by (change_of earlier own) ≤ℤ pos (2 * largest_reading))
change-of-readings earlier None p q = (omega signed, omega signed)
change-of-readings None (Some own) p q =
    let parts = sub_parts own.last.grams own.first.grams in
    (omega (signed, parts), omega (signed, parts))
change-of-readings (Some earlier) (Some own) p q =
    let parts = sub_parts own.last.grams earlier.last.grams in
    (omega (signed, parts), omega (signed, parts))

module _ (n : ℕ) (s : List ℤ) (series : Series n s) where
  hour-of-readings : (h : Timestamp) → OfReadings (hour_answer n s h)
  hour-of-readings h = by (is_gap (hour_of n s h)) (readings-at n s series.holds h)
    where
      by : (b : Bool) → Readings (cond b None (held (hour_of n s h) (hour_of n s h)))
          → OfReadings (cond b None (answer_one (reading_of n s h)))
      by true p = tt
      by false p = (p, p)

  look-of-readings : (hs : List Timestamp) → OfReadings (look_through n s hs)
  look-of-readings [] = rw (look-through-none n s) tt
  look-of-readings (h ∷ hs) =
      rw (look-through-more n s h hs)
      (joined-of-readings (hour_answer n s h) (look_through n s hs) (hour-of-readings h) (look-of-readings hs))

  -- A change is from −2,000,000 to 2,000,000.
  pub change-bounds : (d : ℕ) → (let z = added_by (change_of (look_before n s d) (look_on n s d)) in
      (neg_ℤ (pos (2 * largest_reading)) ≤ℤ z) × (z ≤ℤ pos (2 * largest_reading)))
  change-bounds d =
      change-of-readings (look_before n s d) (look_on n s d) (look-of-readings (column_hours (before d)))
      (look-of-readings (column_hours (day n d)))
