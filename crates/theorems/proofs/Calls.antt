-- Demand 2 for the calls: what their contracts say of a table that is turned back, and of going there and back. Assumes
-- nothing.
use Rattle.kit.proofs.{◌≡◌, sym, ap, ◌∙◌, true, false, List, ◌↔◌, ℕ, ◌/◌, ◌≤◌, ℤ, length, get_or, take, get_or-take}
use Rattle.kit.proofs.{le-ltb, Result, Ok}
use Rattle.words.specs.declared.Refusal.{Refusal}
use Rattle.words.specs.{largest_hours, gap}
use Rattle.om3.specs.Document.{Holds, Series, levels, P, Table, coefficient, code_of_place, table_of, HasTable, lent}
use Rattle.om3.specs.Document.{turned_back, passes, in_order, sound_table, table_short, making_checks}
use Rattle.om3.specs.Document.{turning_back_checks, filled}
use Rattle.sizes.specs.Lent.{TableLent, Enough}
use Rattle.laws.proofs.{Filled.filled-first, Filled.filled-room, Lists.map-up-length, Lists.take-room}
use Rattle.laws.proofs.{Examined.examine-sound, TurnedBack.turned-length, Making.good-some, Making.making-series}
use Rattle.sizes.proofs.{Lent.table-room, TableChecks.decided, TableChecks.passed}
use Rattle.laws.proofs.Demand2 as demand2
use Rattle.laws.proofs.Taken.{taken-passes, good-hours, making-decided, readings-pass, table-first}
use Rattle.making.specs.Making.{Made}
use Rattle.turning.specs.Turning.{TurnedBack}

-- Turning back, with hours and room in order.
module _ (n : ℕ) (cs : List ℤ) (ks : List ℕ) (out : List ℤ) where
  abbrev T : Table
  T = lent cs ks

  module _ (room : Enough n cs ks (length out) n) where
    abbrev few : (1 ≤ n) × (n ≤ largest_hours)
    few = good-some n room.table.good

    sound-passes : sound_table (levels n) n T ≡ true → in_order (turning_back_checks n T (length out)) ≡ passes
    sound-passes s = decided n cs ks (length out) n room ∙ (examine-sound (levels n) n T).1 s

    module _ (out' : List ℤ) (r : Result Unit Refusal) (done : TurnedBack n cs ks out out' r) where
      -- It is taken exactly if some series of n hours has the table ..
      pub taken-exactly : (r ≡ Ok tt) ↔ ((s : List ℤ) × Series n s × HasTable n s T)
      taken-exactly =
          let exactly = demand2.sound-exactly n few.0 few.1 T (table-room n cs ks room.table) in
          let passes-sound = (examine-sound (levels n) n T).0 in (
            λ e. exactly.0 (passes-sound (passed n cs ks (length out) n (taken-passes _ (sym e ∙ done.answer))).1),
            λ h. rw (sound-passes (exactly.1 h)) at done.answer,
          )

      -- .. and then writes that series, and nothing after it.
      pub writes-series : (s : List ℤ) → Series n s → HasTable n s T → out' ≡ filled s out
      writes-series s series has =
          let ok = sound-passes (demand2.has-sound n s T series has) in
          rw (ok, ← demand2.has-turned n s T series has) at done.hours

-- Buffers that begin with the table of a series have it.
module _ (n : ℕ) (s : List ℤ) where
  details-length : length (table_of (levels n) n s).coefficients ≡ P n
  details-length = map-up-length (coefficient (levels n) n s) 0 (P n)

  pairs-length : length (table_of (levels n) n s).codes ≡ P n / 2
  pairs-length = map-up-length (code_of_place (levels n) n s) 0 (P n / 2)

  module _ (cs cs' : List ℤ) (ks ks' : List ℕ) where
    pub filled-has : cs' ≡ filled (table_of (levels n) n s).coefficients cs
        → ks' ≡ filled (table_of (levels n) n s).codes ks → HasTable n s (lent cs' ks')
    filled-has d p =
        record {
          coefficients = ap (take (P n)) d ∙ filled-first _ cs _ details-length;
          codes = ap (take (P n / 2)) p ∙ filled-first _ ks _ pairs-length;
        }

-- There and back.
module _ (n : ℕ) where
  abbrev l : ℕ
  l = levels n

  -- Turning back after making gives each reading and each gap at its own hour.
  module _ (s cs cs' : List ℤ) (ks ks' : List ℕ) (made : Made n s cs ks cs' ks' (Ok tt)) where
    made-passes : in_order (making_checks n s (lent cs ks)) ≡ passes
    made-passes = taken-passes _ made.answer

    abbrev first : List ℤ
    first = take n s

    first-series : Series n first
    first-series = making-series n s (lent cs ks) made-passes

    details : cs' ≡ filled (table_of l n first).coefficients cs
    details =
        rw made-passes at made.coefficients
        ∙ ap (λ (t : Table). filled t.coefficients cs) (table-first n s)

    pairs : ks' ≡ filled (table_of l n first).codes ks
    pairs = rw made-passes at made.codes ∙ ap (λ (t : Table). filled t.codes ks) (table-first n s)

    has-table : HasTable n first (lent cs' ks')
    has-table = filled-has n first cs cs' ks ks' details pairs

    pub made-series : Series n first × HasTable n first (lent cs' ks')
    made-series = (first-series, has-table)

    pub turned-back-after : (out out' : List ℤ) (r : Result Unit Refusal) → n ≤ length out
        → TurnedBack n cs' ks' out out' r → (r ≡ Ok tt) × (out' ≡ filled first out)
    turned-back-after out out' r hours done =
        let table : TableLent n cs' ks' =
        record {
          good = good-hours n first-series.some first-series.most;
          coefficients = rw details (filled-room (table_of l n first).coefficients cs _ (details-length n first));
          codes = rw pairs (filled-room (table_of l n first).codes ks _ (pairs-length n first));
        } in
        let room : Enough n cs' ks' (length out) n = record { table = table; buffer = hours } in (
          (taken-exactly n cs' ks' out room out' r done).1 (first, first-series, has-table),
          writes-series n cs' ks' out room out' r done first first-series has-table,
        )

  -- With room lent, making takes a series, the first n numbers lent, and writes its table, and nothing after it.
  module _ (s cs : List ℤ) (ks : List ℕ) (series : Series n (take n s))
      (room : table_short n (lent cs ks) ≡ false) where
    lent-holds : Holds n s
    lent-holds k b = rw (get_or-take n s k gap b) at (series.holds k b)

    make-passes : in_order (making_checks n s (lent cs ks)) ≡ passes
    make-passes =
        let good = good-hours n series.some series.most in
        let wide = le-ltb (length s) n (take-room n s series.size) in
        making-decided n good s (lent cs ks) (rw wide room) ∙ readings-pass n s lent-holds

    pub make-writes : (cs' : List ℤ) (ks' : List ℕ) (r : Result Unit Refusal) → Made n s cs ks cs' ks' r
        → (r ≡ Ok tt) × (cs' ≡ filled (table_of (levels n) n (take n s)).coefficients cs)
        × (ks' ≡ filled (table_of (levels n) n (take n s)).codes ks) × HasTable n (take n s) (lent cs' ks')
    make-writes cs' ks' r made =
        let taken : Made n s cs ks cs' ks' (Ok tt) =
        record { answer = rw make-passes; coefficients = made.coefficients; codes = made.codes } in (
          rw make-passes at made.answer,
          details s cs cs' ks ks' taken,
          pairs s cs cs' ks ks' taken,
          has-table s cs cs' ks ks' taken,
        )

  -- Making what was turned back gives the same table.
  module _ (cs : List ℤ) (ks : List ℕ) (out out' : List ℤ) (done : TurnedBack n cs ks out out' (Ok tt)) where
    turned-passes : in_order (turning_back_checks n (lent cs ks) (length out)) ≡ passes
    turned-passes = taken-passes _ done.answer

    abbrev room : Enough n cs ks (length out) n
    room = (passed n cs ks (length out) n turned-passes).0

    abbrev many : (1 ≤ n) × (n ≤ largest_hours)
    many = good-some n room.table.good

    is-sound : sound_table l n (lent cs ks) ≡ true
    is-sound = (examine-sound l n (lent cs ks)).0 (passed n cs ks (length out) n turned-passes).1

    abbrev again : List ℤ
    again = turned_back l (lent cs ks) n

    again-series : Series n again
    again-series = demand2.turned-series n many.0 many.1 (lent cs ks) is-sound

    again-has : HasTable n again (lent cs ks)
    again-has =
        demand2.turned-has n many.0 many.1 (lent cs ks) is-sound (table-room n cs ks room.table)

    written : out' ≡ filled again out
    written = rw turned-passes at done.hours

    first-again : take n out' ≡ again
    first-again = ap (take n) written ∙ filled-first again out n (turned-length l (lent cs ks) n)

    same-table : table_of l n out' ≡ table_of l n again
    same-table = table-first n out' ∙ ap (table_of l n) first-again

    out-holds : Holds n out'
    out-holds k h =
        let e : get_or out' k gap ≡ get_or again k gap =
        sym (get_or-take n out' k gap h) ∙ ap (λ (u : List ℤ). get_or u k gap) first-again in
        rw e (again-series.holds k h)

    module _ (cs₁ : List ℤ) (ks₁ : List ℕ) (room₁ : table_short n (lent cs₁ ks₁) ≡ false) where
      made_again : in_order (making_checks n out' (lent cs₁ ks₁)) ≡ passes
      made_again =
          let size : n ≤ length out' = rw written (filled-room again out n (turned-length l (lent cs ks) n)) in
          making-decided n room.table.good out' (lent cs₁ ks₁)
          (rw (le-ltb (length out') n size) room₁)
          ∙ readings-pass n out' out-holds

      pub made_after : (cs₂ : List ℤ) (ks₂ : List ℕ) (r : Result Unit Refusal) → Made n out' cs₁ ks₁ cs₂ ks₂ r
          → (r ≡ Ok tt) × (cs₂ ≡ filled (take (P n) cs) cs₁) × (ks₂ ≡ filled (take (P n / 2) ks) ks₁)
      made_after cs₂ ks₂ r made = (
        rw made_again at made.answer,
        rw again-has.coefficients
            (rw made_again at made.coefficients ∙ ap (λ (t : Table). filled t.coefficients cs₁) same-table),
        rw again-has.codes
            (rw made_again at made.codes ∙ ap (λ (t : Table). filled t.codes ks₁) same-table),
      )
