-- The log of true weights gives these weights back: step by step from one recorded hour to the next. Assumes nothing.
use Rattle.kit.proofs.{◌≡◌, refl, ap, ap₂, ◌∙◌, Bool, true, false, cond, ◌||◌, List, [], ◌∷◌, map, ⊎_elim, ℕ, zero, suc}
use Rattle.kit.proofs.{◌+◌, ◌≤◌, ◌<◌, eq-or-lt_of_le, arith, ℤ, ◌+ℤ◌, length}
use borrow.Author.Tests.{eq-eqb, ne_eqb}
use Rattle.signed.proofs.{signed, sub_parts}
use Rattle.words.specs.{gap, declared.Timestamp.Timestamp, declared.Reading.Reading}
use Rattle.om3.specs.Document.{up_from, keep, hour, hours_from, passes, in_order, count_of, recorded, recorded_hours}
use Rattle.om3.specs.Document.{residue, step, weights_after, rebuilt, held_at, rebuilt_series, check_flags, check_start}
use Rattle.om3.specs.Document.{check_weights, rebuilding_checks, TrueLog, true_series, short, bad_hours}
use Rattle.laws.proofs.{Tests.chosen, Tests.by-test, Lists.kept-hours, Turns.turned, Turns.step-true}
use Rattle.laws.proofs.{Turns.residue-small, HourChecks.each-passes}

-- Two lists made hour by hour are the same if they are at each hour.
same-hours : (f g : ℕ → ℤ) (k m : ℕ) → ((j : ℕ) → k ≤ j → j < k + m → f j ≡ g j)
    → map f (up_from k m) ≡ map g (up_from k m)
unfolding up_from
same-hours f g k zero e = refl
same-hours f g k (suc m) e =
    ap₂ ◌∷◌ (e k (omega arith) (omega arith))
    (same-hours f g (k + 1) m (λ j a b. e j (omega arith) (omega arith)))

module _ (n : ℕ) (counts flags : List ℕ) (start : ℤ) (weight : Timestamp → ℤ)
    (log : TrueLog n counts flags start weight) where
  abbrev is_recorded : Timestamp → Bool
  is_recorded = recorded flags

  abbrev weighed : Timestamp → Reading
  weighed h = record { hour = h; grams = weight h }

  -- From the recorded hour g to the next one, k.
  one-step : (g : Timestamp) (k : ℕ) → g.0 < k → k < n → is_recorded g ≡ true → is_recorded (hour k) ≡ true
      → ((j : ℕ) → g.0 < j → j < k → is_recorded (hour j) ≡ false)
      → weight g +ℤ step (count_of counts g) (count_of counts (hour k)) ≡ weight (hour k)
  one-step g k o b eg ek none =
      let near = log.step g (hour k)
      (record { order = o; within = b; earlier = eg; later = ek; between = none }) in
      let apart = sub_parts (weight (hour k)) (weight g) in
      rw (log.counted g (omega arith) eg, log.counted (hour k) b ek)
      (step-true (weight g) (weight (hour k)) (omega (signed, near.0, apart)) (omega (signed, near.1, apart)))

  -- Where hour k is not recorded either, there is none up to it.
  none_more : {k : ℕ} → is_recorded (hour k) ≡ false → {j : ℕ} → j < k + 1 → (j < k → is_recorded (hour j) ≡ false)
      → is_recorded (hour j) ≡ false
  none_more ek b before =
      ⊎_elim (λ z. ap (λ (i : ℕ). is_recorded (hour i)) z ∙ ek) before (eq-or-lt_of_le (omega arith))

  -- The weights after the recorded hour g, which is the last before hour k.
  after-true : (m k : ℕ) → k + m ≡ n → (g : Timestamp) → g.0 < k → is_recorded g ≡ true
      → ((j : ℕ) → g.0 < j → j < k → is_recorded (hour j) ≡ false)
      → weights_after counts (weight g) (count_of counts g) (keep is_recorded (hours_from k m))
      ≡ map weighed (keep is_recorded (hours_from k m))
  unfolding up_from keep weights_after
  after-true zero k e g o eg none = refl
  after-true (suc m) k e g o eg none =
      by-test (is_recorded (hour k))
      (λ ek.
      rw (ek, one-step g k o (omega arith) eg ek none)
      (ap (◌∷◌ (weighed (hour k)))
      (after-true m (k + 1) (omega arith) (hour k) (omega arith) ek (λ j a b. absurd (omega arith)))))
      (λ ek. rw ek (after-true m (k + 1) (omega arith) g (omega arith) eg (λ j a b. none_more ek b (none j a))))

  -- What holds where no hour is recorded, and where hour k is the first, holds of the recorded hours.
  by_first : (Q : List Timestamp → Type 0) → Q []
      → ((m k : ℕ) → k + suc m ≡ n → is_recorded (hour k) ≡ true → ((j : ℕ) → j < k → is_recorded (hour j) ≡ false)
      → Q (hour k ∷ keep is_recorded (hours_from (k + 1) m)))
      → (m k : ℕ) → k + m ≡ n → ((j : ℕ) → j < k → is_recorded (hour j) ≡ false)
      → Q (keep is_recorded (hours_from k m))
  unfolding up_from keep
  by_first Q empty first zero k e none = empty
  by_first Q empty first (suc m) k e none =
      chosen Q (is_recorded (hour k)) (λ ek. first m k e ek none)
      (λ ek. by_first Q empty first m (k + 1) (omega arith) (λ j b. none_more ek b (none j)))

  all_true : rebuilt counts start (recorded_hours n flags) ≡ map weighed (recorded_hours n flags)
  all_true =
      by_first (λ hs. rebuilt counts start hs ≡ map weighed hs) refl
      (λ m k e ek none.
      rw (log.first (hour k) (omega arith) ek none)
      (ap (◌∷◌ (weighed (hour k)))
      (after-true m (k + 1) (omega arith) (hour k) (omega arith) ek (λ j a b. absurd (omega arith)))))
      n 0 (omega arith) (λ j b. absurd (omega arith))

  -- What is held at an hour of them.
  held_none : (m k j : ℕ) → j < k → held_at (map weighed (keep is_recorded (hours_from k m))) (hour j) ≡ gap
  unfolding held_at
  held_none m k j h =
      kept-hours is_recorded (λ hs. held_at (map weighed hs) (hour j) ≡ gap) refl k m
      (λ i a b e hs later. rw (ne_eqb i j (λ s. omega arith)) later)

  held-true : (m k j : ℕ) → k ≤ j → j < k + m
      → held_at (map weighed (keep is_recorded (hours_from k m))) (hour j)
      ≡ cond (is_recorded (hour j)) (weight (hour j)) gap
  unfolding up_from keep held_at
  held-true zero k j a b = absurd (omega arith)
  held-true (suc m) k j a b =
      let later = held-true m (k + 1) j in
      ⊎_elim
      (λ z. rw (← z)
      (by-test (is_recorded (hour k)) (λ ek. rw (ek, eq-eqb k k refl))
      (λ ek. rw ek (held_none m (k + 1) k (omega arith)))))
      (λ z.
      by-test (is_recorded (hour k))
      (λ ek. rw (ek, ne_eqb k j (λ s. omega arith)) (later (omega arith) (omega arith)))
      (λ ek. rw ek (later (omega arith) (omega arith))))
      (eq-or-lt_of_le a)

  -- Its checks pass.
  flags-pass : check_flags n flags ≡ passes
  unfolding check_flags
  flags-pass = each-passes _ 0 n (λ k a b. rw (log.flag (hour k) (omega arith)))

  start-passes : check_start counts start (recorded_hours n flags) ≡ passes
  start-passes =
      by_first (λ hs. check_start counts start hs ≡ passes) refl
      (λ m k e ek none.
      let r = residue (weight (hour k)) in
      let same = residue-small r (turned (weight (hour k))).less in
      let counted = log.counted (hour k) (omega arith) ek in
      rw (log.first (hour k) (omega arith) ek none, counted, same, eq-eqb r r refl))
      n 0 (omega arith) (λ j b. absurd (omega arith))

  weights-pass : check_weights (map weighed (recorded_hours n flags)) ≡ passes
  unfolding in_order
  weights-pass =
      kept-hours is_recorded (λ hs. check_weights (map weighed hs) ≡ passes) refl 0 n
      (λ k a b e hs later. rw (log.reading (hour k) (omega arith) e) later)

  pub true-passes : (size : ℕ) → bad_hours n ≡ false
      → (short (length counts) n || (short (length flags) n || short size n)) ≡ false
      → in_order (rebuilding_checks n counts flags start size) ≡ passes
  unfolding in_order
  true-passes size good room = rw (good, room, flags-pass, start-passes, all_true) (rw weights-pass)

  pub true-series : rebuilt_series n counts flags start ≡ true_series n flags weight
  true-series = rw all_true (same-hours _ _ 0 n (λ j a b. held-true n 0 j a b))
