-- A signed number z is up z − dn z, for two natural numbers. Each order, equation and test of signed numbers is a
-- linear fact of those parts, which `omega` reads. Assumes nothing.
use Rattle.kit.proofs.{◌≡◌, refl, sym, ap, subst, Bool, true, false, ℕ, suc, ◌+◌, ◌≤◌, ◌<◌, arith, T, ℤ, pos, negsuc}
use Rattle.kit.proofs.{le_z, lt_z, ◌≤ℤ◌, ◌<ℤ◌, ltb-true, ltb-false, leb-true, leb-false, le-leb, lt-leb, lt-ltb, le-ltb}

abbrev pub up : ℤ → ℕ
up (pos n) = n
up (negsuc n) = 0

abbrev pub dn : ℤ → ℕ
dn (pos n) = 0
dn (negsuc n) = suc n

pub ≡-parts : {a b : ℤ} → a ≡ b → up a + dn b ≡ up b + dn a
≡-parts {a} e = subst (λ z. up a + dn z ≡ up z + dn a) e refl

pub parts-≡ : {a b : ℤ} → up a + dn b ≡ up b + dn a → a ≡ b
parts-≡ {a = pos a} {b = pos b} h = ap pos (omega arith)
parts-≡ {a = pos a} {b = negsuc b} h = absurd (omega arith)
parts-≡ {a = negsuc a} {b = pos b} h = absurd (omega arith)
parts-≡ {a = negsuc a} {b = negsuc b} h = ap negsuc (omega arith)

-- A test that fails does not pass.
pub clash : {A : Type 0} → false ≡ true → A
clash e = let z : ◌≡◌ {A = ℕ} 0 1 = cc in absurd (omega arith)

pub le_z-true : (a b : ℤ) → le_z a b ≡ true → up a + dn b ≤ up b + dn a
le_z-true (pos a) (pos b) e = omega (arith, leb-true)
le_z-true (pos a) (negsuc b) e = clash e
le_z-true (negsuc a) (pos b) e = omega arith
le_z-true (negsuc a) (negsuc b) e = omega (arith, leb-true)

pub le_z-false : (a b : ℤ) → le_z a b ≡ false → up b + dn a < up a + dn b
le_z-false (pos a) (pos b) e = omega (arith, leb-false)
le_z-false (pos a) (negsuc b) e = omega arith
le_z-false (negsuc a) (pos b) e = clash (sym e)
le_z-false (negsuc a) (negsuc b) e = omega (arith, leb-false)

pub true-le_z : (a b : ℤ) → up a + dn b ≤ up b + dn a → le_z a b ≡ true
true-le_z (pos a) (pos b) h = le-leb a b (omega arith)
true-le_z (pos a) (negsuc b) h = absurd (omega arith)
true-le_z (negsuc a) (pos b) h = refl
true-le_z (negsuc a) (negsuc b) h = le-leb b a (omega arith)

pub false-le_z : (a b : ℤ) → up b + dn a < up a + dn b → le_z a b ≡ false
false-le_z (pos a) (pos b) h = lt-leb a b (omega arith)
false-le_z (pos a) (negsuc b) h = refl
false-le_z (negsuc a) (pos b) h = absurd (omega arith)
false-le_z (negsuc a) (negsuc b) h = lt-leb b a (omega arith)

pub lt_z-true : (a b : ℤ) → lt_z a b ≡ true → up a + dn b < up b + dn a
lt_z-true (pos a) (pos b) e = omega (arith, ltb-true)
lt_z-true (pos a) (negsuc b) e = clash e
lt_z-true (negsuc a) (pos b) e = omega arith
lt_z-true (negsuc a) (negsuc b) e = omega (arith, ltb-true)

pub lt_z-false : (a b : ℤ) → lt_z a b ≡ false → up b + dn a ≤ up a + dn b
lt_z-false (pos a) (pos b) e = omega (arith, ltb-false)
lt_z-false (pos a) (negsuc b) e = omega arith
lt_z-false (negsuc a) (pos b) e = clash (sym e)
lt_z-false (negsuc a) (negsuc b) e = omega (arith, ltb-false)

pub true-lt_z : (a b : ℤ) → up a + dn b < up b + dn a → lt_z a b ≡ true
true-lt_z (pos a) (pos b) h = lt-ltb a b (omega arith)
true-lt_z (pos a) (negsuc b) h = absurd (omega arith)
true-lt_z (negsuc a) (pos b) h = refl
true-lt_z (negsuc a) (negsuc b) h = lt-ltb b a (omega arith)

pub false-lt_z : (a b : ℤ) → up b + dn a ≤ up a + dn b → lt_z a b ≡ false
false-lt_z (pos a) (pos b) h = le-ltb a b (omega arith)
false-lt_z (pos a) (negsuc b) h = refl
false-lt_z (negsuc a) (pos b) h = absurd (omega arith)
false-lt_z (negsuc a) (negsuc b) h = le-ltb b a (omega arith)

-- What `T` says of a test, as an equation.
holds : {t : Bool} → T t → t ≡ true
holds {t = true} h = refl
holds {t = false} h = absurd h

pub ≤-parts : {a b : ℤ} → a ≤ℤ b → up a + dn b ≤ up b + dn a
≤-parts {a} {b} h = le_z-true a b (holds h.le)

pub parts-≤ : {a b : ℤ} → up a + dn b ≤ up b + dn a → a ≤ℤ b
parts-≤ {a} {b} h = record { le = subst T (sym (true-le_z a b h)) tt }

pub <-parts : {a b : ℤ} → a <ℤ b → up a + dn b < up b + dn a
<-parts {a} {b} h = lt_z-true a b (holds h.lt)

pub parts-< : {a b : ℤ} → up a + dn b < up b + dn a → a <ℤ b
parts-< {a} {b} h = record { lt = subst T (sym (true-lt_z a b h)) tt }
