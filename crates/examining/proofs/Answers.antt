-- What the answer of a step down says: the node is unsound, or it is sound and these are its halves. Assumes nothing.
use Rattle.kit.proofs.{◌≡◌, refl, sym, ap, Bool, true, false, cond, ℕ, arith, Option, None, Some}
use Rattle.node.specs.Steps.{halves_as}
use Rattle.words.specs.declared.Range.{Range}
use Rattle.node.specs.declared.{Halves.Halves}

-- The test passed, and the two halves a and b are x and y.
pub record Stepped (s : Bool) (x y a b : Option Range) : Type 0 where
  pub is_sound : s ≡ true
  pub first : a ≡ x
  pub second : b ≡ y

pub stepped : (s : Bool) (x y : Option Range) {a b : Option Range} → cond s (halves_as x y) None ≡ halves_as a b
    → Stepped s x y a b
stepped true x y {a} {b} e =
    let same : ◌≡◌ {A = Halves} (record { left = x; right = y }) (record { left = a; right = b }) = cc in
    record {
      is_sound = refl;
      first = sym (ap (λ (h : Halves). h.left) same);
      second = sym (ap (λ (h : Halves). h.right) same);
    }
stepped false x y e = let z : ◌≡◌ {A = ℕ} 0 1 = cc in absurd (omega arith)

pub not-stepped : (s : Bool) (x y : Option Range) → cond s (halves_as x y) None ≡ None → s ≡ false
not-stepped true x y e = let z : ◌≡◌ {A = ℕ} 0 1 = cc in absurd (omega arith)
not-stepped false x y e = refl

-- The same of node 1.
pub record Rooted (s : Bool) (x a : Option Range) : Type 0 where
  pub is_sound : s ≡ true
  pub range : a ≡ x

pub rooted : (s : Bool) (x : Option Range) {a : Option Range} → cond s (Some x) None ≡ Some a → Rooted s x a
rooted true x e = record { is_sound = refl; range = cc }
rooted false x e = let z : ◌≡◌ {A = ℕ} 0 1 = cc in absurd (omega arith)

pub not-rooted : (s : Bool) (x : Option Range) → cond s (Some x) None ≡ None → s ≡ false
not-rooted true x e = let z : ◌≡◌ {A = ℕ} 0 1 = cc in absurd (omega arith)
not-rooted false x e = refl
