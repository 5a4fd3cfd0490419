-- The lesser and the greater of two numbers, and the tests of equality, in their parts. Assumes nothing.
use Rattle.kit.proofs.{◌≡◌, refl, sym, ap, ◌∙◌, Bool, true, false, cond, ◌&&◌, ℕ, ◌+◌, ◌<◌, ◌^◌, min, max, arith, ℤ}
use Rattle.kit.proofs.{pos, negsuc, le_z, lt_z, w32, SFits, to_z, of_z, to_z-of_z, eqb, eqb-true, ne_eqb}
use Rattle.std.specs.Int.{int_min, int_max}
use Rattle.signed.specs.{eq_z, is_number}
use Rattle.signed.proofs.Parts.{up, dn, ≡-parts, parts-≡, lt_z-true, lt_z-false, le_z-true, true-le_z}
use Rattle.signed.proofs.Parts.{clash}

pub min-parts : (a b : ℤ) → up (int_min a b) + (dn a + dn b) ≡ min (up a + dn b) (up b + dn a) + dn (int_min a b)
min-parts a b = by (lt_z b a) refl
  where
    by : (t : Bool) → lt_z b a ≡ t
        → up (cond t b a) + (dn a + dn b) ≡ min (up a + dn b) (up b + dn a) + dn (cond t b a)
    by true e = omega (arith, lt_z-true)
    by false e = omega (arith, lt_z-false)

pub max-parts : (a b : ℤ) → up (int_max a b) + (dn a + dn b) ≡ max (up a + dn b) (up b + dn a) + dn (int_max a b)
max-parts a b = by (lt_z b a) refl
  where
    by : (t : Bool) → lt_z b a ≡ t
        → up (cond t a b) + (dn a + dn b) ≡ max (up a + dn b) (up b + dn a) + dn (cond t a b)
    by true e = omega (arith, lt_z-true)
    by false e = omega (arith, lt_z-false)

-- A hypothesis or a goal that a number is the lesser or the greater of two.
pub ≡-min : (a b : ℤ) {z : ℤ} → z ≡ int_min a b → up z + (dn a + dn b) ≡ min (up a + dn b) (up b + dn a) + dn z
≡-min a b e = omega (arith, ≡-parts e, min-parts a b)

pub ≡-max : (a b : ℤ) {z : ℤ} → z ≡ int_max a b → up z + (dn a + dn b) ≡ max (up a + dn b) (up b + dn a) + dn z
≡-max a b e = omega (arith, ≡-parts e, max-parts a b)

pub min-≡ : (a b : ℤ) {z : ℤ} → up z + (dn a + dn b) ≡ min (up a + dn b) (up b + dn a) + dn z → z ≡ int_min a b
min-≡ a b h = parts-≡ (omega (arith, min-parts a b))

pub max-≡ : (a b : ℤ) {z : ℤ} → up z + (dn a + dn b) ≡ max (up a + dn b) (up b + dn a) + dn z → z ≡ int_max a b
max-≡ a b h = parts-≡ (omega (arith, max-parts a b))

pub is_number-true : (k : ℕ) (z : ℤ) → is_number k z ≡ true → z ≡ pos k
is_number-true k (pos n) e = ap pos (eqb-true n k e)
is_number-true k (negsuc n) e = clash e

-- A test of the machine compares bits: of a number that fits they are those of k exactly if it is k.
pub is_number-bits : (k : ℕ) (z : ℤ) → k < 2 ^ 31 → SFits w32 z → eqb (of_z w32 z) k ≡ is_number k z
is_number-bits k (pos n) h f = refl
is_number-bits k (negsuc n) h f = ne_eqb (of_z w32 (negsuc n)) k (λ e. omega (arith, f.sfits))

-- Two numbers that pass the test of equality are equal, and equal numbers pass it.
pub eq_z-true : (a b : ℤ) → eq_z a b ≡ true → a ≡ b
eq_z-true a b e = by (le_z a b) refl (le_z b a) refl e
  where
    by : (s : Bool) → le_z a b ≡ s → (t : Bool) → le_z b a ≡ t → (s && t) ≡ true → a ≡ b
    by true p true q e = parts-≡ (omega (arith, le_z-true a b p, le_z-true b a q))
    by true p false q e = clash e
    by false p t q e = clash e

pub true-eq_z : (a b : ℤ) → up a + dn b ≡ up b + dn a → eq_z a b ≡ true
true-eq_z a b h = rw (true-le_z a b (omega arith), true-le_z b a (omega arith))

-- The machine's test of equality compares bits: it passes exactly if the numbers are equal.
pub bits-eq_z : (a b : ℤ) → SFits w32 a → SFits w32 b → of_z w32 a ≡ of_z w32 b → eq_z a b ≡ true
bits-eq_z a b f g e = true-eq_z a b (≡-parts (sym (to_z-of_z f) ∙ ap (to_z w32) e ∙ to_z-of_z g))

pub bits-not-eq_z : (a b : ℤ) → (of_z w32 a ≡ of_z w32 b → ⊥) → eq_z a b ≡ false
bits-not-eq_z a b n = by (eq_z a b) refl
  where
    by : (t : Bool) → eq_z a b ≡ t → t ≡ false
    by true e = absurd (n (ap (of_z w32) (eq_z-true a b e)))
    by false e = refl
