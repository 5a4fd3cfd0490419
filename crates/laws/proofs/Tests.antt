-- Tests taken apart and put together, and cases of natural numbers. Assumes nothing.
use Rattle.kit.proofs.{◌≡◌, refl, sym, ◌∙◌, Bool, true, false, cond, ◌&&◌, ◌||◌, ◌⊎◌, ⊎_elim, inl, inr, ℕ, ◌+◌, ◌-◌}
use Rattle.kit.proofs.{◌*◌, ◌/◌, ◌%◌, ◌≤◌, ◌<◌, eq-zero-or-pos, arith, eqb, ne_eqb, ℤ, le_z, ◌≤ℤ◌}
use Rattle.signed.proofs.{clash, signed}

pub and_left : (a b : Bool) → (a && b) ≡ true → a ≡ true
and_left true b e = refl
and_left false b e = clash e

pub and_right : (a b : Bool) → (a && b) ≡ true → b ≡ true
and_right true b e = e
and_right false b e = clash e

pub both_true : {a b : Bool} → a ≡ true → b ≡ true → (a && b) ≡ true
both_true p q = rw (p, q)

pub or_cases : (a b : Bool) → (a || b) ≡ true → (a ≡ true) ⊎ (b ≡ true)
or_cases true b e = inl refl
or_cases false b e = inr e

pub neither : (a b : Bool) → (a || b) ≡ false → (a ≡ false) × (b ≡ false)
neither true b e = clash (sym e)
neither false b e = (refl, e)

pub left-true : {a : Bool} (b : Bool) → a ≡ true → (a || b) ≡ true
left-true b e = rw e

pub right-true : (a : Bool) {b : Bool} → b ≡ true → (a || b) ≡ true
right-true true e = refl
right-true false e = e

-- A test that implies one that fails, fails.
pub fails-up : (a b : Bool) → (a ≡ true → b ≡ true) → b ≡ false → a ≡ false
fails-up true b f e = sym (f refl) ∙ e
fails-up false b f e = refl

-- What holds of each of two, where a test chooses it, holds of the one that is chosen.
pub chosen : {A : Type 0} (P : A → Type 0) (b : Bool) {x y : A} → (b ≡ true → P x) → (b ≡ false → P y) → P (cond b x y)
chosen P true f g = f refl
chosen P false f g = g refl

-- What holds where a test passes and where it fails, holds.
pub by-test : {G : Type 0} (b : Bool) → (b ≡ true → G) → (b ≡ false → G) → G
by-test true f g = f refl
by-test false f g = g refl

pub below_or_not : (a b : ℕ) → (a < b) ⊎ (b ≤ a)
below_or_not a b = ⊎_elim (λ e. inr (omega arith)) (λ p. inl (omega arith)) (eq-zero-or-pos (b - a))

pub above_zero : (k : ℕ) → 0 < k → eqb k 0 ≡ false
above_zero k h = ne_eqb k 0 (λ e. absurd (omega (arith, e)))

-- A signed number that is tested to be from a to b is, and one that is passes the test.
pub between : (a b z : ℤ) → (le_z a z && le_z z b) ≡ true → (a ≤ℤ z) × (z ≤ℤ b)
between a b z e =
    let p = and_left (le_z a z) (le_z z b) e in
    let q = and_right (le_z a z) (le_z z b) e in
    (omega signed, omega signed)

pub is-between : (a b z : ℤ) → a ≤ℤ z → z ≤ℤ b → (le_z a z && le_z z b) ≡ true
is-between a b z p q = both_true {a = le_z a z} (omega signed) (omega signed)

-- A number is twice its half, or one more.
pub even-or-odd : (k : ℕ) → (2 * (k / 2) ≡ k) ⊎ (2 * (k / 2) + 1 ≡ k)
even-or-odd k = ⊎_elim (λ e. inl (omega arith)) (λ p. inr (omega arith)) (eq-zero-or-pos (k % 2))
