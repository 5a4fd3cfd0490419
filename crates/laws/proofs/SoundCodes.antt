-- What a sound pair says: its hours join to its range, each is one reading or a gap, and they give its code back.
-- Assumes nothing.
use Rattle.kit.proofs.{◌≡◌, refl, sym, true, false, ◌&&◌, ◌||◌, ⊎_elim, ℕ, eqb, ℤ, lt_z, eqb-true, None, Some, Option}
use Rattle.words.specs.Said.{held}
use Rattle.std.specs.Int.{int_min, int_max}
use Rattle.signed.specs.{eq_z}
use Rattle.signed.proofs.{min-parts, max-parts, eq_z-true, signed}
use Rattle.words.specs.{low_of, Readings}
use Rattle.words.specs.declared.{Range.Range}
use Rattle.om3.specs.Document.{is_gap, hour_range, code, first_of_pair, second_of_pair, sound_code}
use Rattle.laws.proofs.Tests.{and_left, and_right, or_cases}
use Rattle.laws.proofs.SoundDetails.{Halves, low-no-gap, high-no-gap}

-- A pair: its hours, each a single reading or a gap, and its code given back by them.
pub record Coded (r : Option Range) (c : ℕ) : Type 0 where
  pub halves : Halves r (first_of_pair r c) (second_of_pair r c)
  pub first : hour_range (low_of (first_of_pair r c)) ≡ first_of_pair r c
  pub second : hour_range (low_of (second_of_pair r c)) ≡ second_of_pair r c
  pub back : code (low_of (first_of_pair r c)) (low_of (second_of_pair r c)) ≡ c

module _ (a b : ℤ) (p : Readings (held a b)) where
  abbrev A : is_gap a ≡ false
  A = low-no-gap a b p

  abbrev B : is_gap b ≡ false
  B = high-no-gap a b p

  code-0 : Coded (held a b) 0
  code-0 =
      let f : lt_z b a ≡ false = omega signed in
      let lows : int_min b a ≡ a = omega (signed, min-parts b a) in
      let highs : int_max b a ≡ b = omega (signed, max-parts b a) in
      record {
        halves = record { joined = cc; readings-left = omega signed; readings-right = omega signed };
        first = rw B;
        second = rw A;
        back = rw (B, A, f);
      }

  code-1 : lt_z a b ≡ true → Coded (held a b) 1
  code-1 f =
      let lows : int_min a b ≡ a = omega (signed, min-parts a b) in
      let highs : int_max a b ≡ b = omega (signed, max-parts a b) in
      record {
        halves = record { joined = cc; readings-left = omega signed; readings-right = omega signed };
        first = rw A;
        second = rw B;
        back = rw (B, A, f);
      }

  code-2 : a ≡ b → Coded (held a b) 2
  code-2 e =
      record {
        halves = record { joined = cc; readings-left = omega signed; readings-right = tt };
        first = rw A;
        second = refl;
        back = rw A;
      }

  code-3 : a ≡ b → Coded (held a b) 3
  code-3 e =
      record {
        halves = record { joined = cc; readings-left = tt; readings-right = omega signed };
        first = refl;
        second = rw A;
        back = rw A;
      }

  held-coded : (c : ℕ) → sound_code (held a b) c ≡ true → Coded (held a b) c
  held-coded c h =
      ⊎_elim
      (λ m. ⊎_elim
      (λ z. rw (eqb-true c 0 z) code-0)
      (λ z. rw (eqb-true c 1 (and_left (eqb c 1) (lt_z a b) z)) (code-1 (and_right (eqb c 1) (lt_z a b) z)))
      (or_cases (eqb c 0) (eqb c 1 && lt_z a b) m))
      (λ m.
      let e = eq_z-true a b (and_right (eqb c 2 || eqb c 3) (eq_z a b) m) in
      ⊎_elim (λ z. rw (eqb-true c 2 z) (code-2 e)) (λ z. rw (eqb-true c 3 z) (code-3 e))
      (or_cases (eqb c 2) (eqb c 3) (and_left (eqb c 2 || eqb c 3) (eq_z a b) m)))
      (or_cases (eqb c 0 || (eqb c 1 && lt_z a b)) ((eqb c 2 || eqb c 3) && eq_z a b) h)

pub coded : (r : Option Range) (c : ℕ) → Readings r → sound_code r c ≡ true → Coded r c
coded None c p h =
    record {
      halves = record { joined = refl; readings-left = tt; readings-right = tt };
      first = refl;
      second = refl;
      back = sym (eqb-true c 4 h);
    }
coded (Some r) c p h = held-coded r.low r.high p c h
