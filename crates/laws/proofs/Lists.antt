-- Lists made by counting up, how long a list is of which k can be taken, what a test keeps of a list, and the first
-- number that passes a test. Assumes nothing.
use Rattle.kit.proofs.{◌≡◌, refl, sym, ap, ◌∙◌, Bool, true, false, cond, List, [], ◌∷◌, ◌++◌, map, ⊎_elim, ℕ, zero, suc}
use Rattle.kit.proofs.{◌+◌, ◌≤◌, ◌<◌, zero-add, add-zero, suc-add, eq-or-lt_of_le, arith, length, get_or, take}
use Rattle.kit.proofs.{length-map, take_all, ext_get_or, get_or-take, length-take-le}
use Rattle.signed.proofs.{clash}
use Rattle.words.specs.declared.Timestamp.{Timestamp}
use Rattle.om3.specs.Document.{up_from, any, every, keep, first_from, hour, hours_from}
use Rattle.laws.proofs.Tests.{and_left, and_right, neither, chosen, below_or_not}

pub up-append : (f a b : ℕ) → up_from f (a + b) ≡ up_from f a ++ up_from (f + a) b
unfolding up_from
up-append f zero b = ap (up_from f) (zero-add b) ∙ sym (ap (λ (k : ℕ). up_from k b) (add-zero f))
up-append f (suc a) b =
    let e : f + 1 + a ≡ f + suc a = omega arith in
    ap (up_from f) (suc-add a b)
    ∙ ap (◌∷◌ f) (up-append (f + 1) a b ∙ ap (λ (k : ℕ). up_from (f + 1) a ++ up_from k b) e)

pub up-length : (f c : ℕ) → length (up_from f c) ≡ c
unfolding up_from
up-length f zero = refl
up-length f (suc c) = ap suc (up-length (f + 1) c)

module _ {A : Type 0} (g : ℕ → A) where
  pub map-up-length : (f c : ℕ) → length (map g (up_from f c)) ≡ c
  map-up-length f c = length-map (up_from f c) g ∙ up-length f c

  -- What stands at a place of a list made place by place.
  pub map-up-at : (d : A) (f c p : ℕ) → p < c → get_or (map g (up_from f c)) p d ≡ g (f + p)
  unfolding up_from
  map-up-at d f zero p h = absurd (omega arith)
  map-up-at d f (suc c) zero h = ap g (sym (add-zero f))
  map-up-at d f (suc c) (suc p) h =
      let e : f + 1 + p ≡ f + suc p = omega arith in
      map-up-at d (f + 1) c p (omega arith) ∙ ap g e

  pub map-up-from-0 : (d : A) (c p : ℕ) → p < c → get_or (map g (up_from 0 c)) p d ≡ g p
  map-up-from-0 d c p h = map-up-at d 0 c p h ∙ ap g (zero-add p)

  -- The first k of a list that holds at each place what is made there.
  pub take-made : (d : A) (k : ℕ) (xs : List A) → k ≤ length xs → ((p : ℕ) → p < k → get_or xs p d ≡ g p)
      → take k xs ≡ map g (up_from 0 k)
  take-made d k xs room same =
      let size = length-take-le k xs room in
      ext_get_or d (take k xs) (map g (up_from 0 k)) (size ∙ sym (map-up-length 0 k))
      (λ p h.
      let h' : p < k = omega (arith, size) in
      get_or-take k xs p d h' ∙ same p h' ∙ sym (map-up-from-0 d k p h'))

-- A list of which k can be taken has k.
pub take-room : {A : Type 0} (k : ℕ) (xs : List A) → length (take k xs) ≡ k → k ≤ length xs
take-room k xs e =
    ⊎_elim (λ h. omega (arith, ap length (take_all k xs (omega arith)))) (λ h. h) (below_or_not (length xs) k)

cond-append : {A : Type 0} (b : Bool) (x : A) (xs ys : List A)
    → cond b (x ∷ (xs ++ ys)) (xs ++ ys) ≡ cond b (x ∷ xs) xs ++ ys
cond-append true x xs ys = refl
cond-append false x xs ys = refl

-- What a test keeps of two lists, of a list whose every member passes it, and of one where none does.
module _ {A : Type 0} (p : A → Bool) where
  pub keep_append : (xs ys : List A) → keep p (xs ++ ys) ≡ keep p xs ++ keep p ys
  unfolding keep
  keep_append [] ys = refl
  keep_append (x ∷ xs) ys = rw (keep_append xs ys) (cond-append (p x) x (keep p xs) (keep p ys))

  pub every-kept : (xs : List A) → every p xs ≡ true → keep p xs ≡ xs
  unfolding every keep
  every-kept [] e = refl
  every-kept (x ∷ xs) e =
      rw (and_left (p x) (every p xs) e) (ap (◌∷◌ x) (every-kept xs (and_right (p x) (every p xs) e)))

  pub nothing-kept : (xs : List A) → any p xs ≡ false → keep p xs ≡ []
  unfolding any keep
  nothing-kept [] e = refl
  nothing-kept (x ∷ xs) e = let two = neither (p x) (any p xs) e in rw two.0 (nothing-kept xs two.1)

-- What holds of no hours, and of one more that is kept where it holds of the later ones, holds of all that are kept.
pub kept-hours : (p : Timestamp → Bool) (P : List Timestamp → Type 0) → P [] → (f c : ℕ)
    → ((k : ℕ) → f ≤ k → k < f + c → p (hour k) ≡ true → (hs : List Timestamp) → P hs → P (hour k ∷ hs))
    → P (keep p (hours_from f c))
unfolding keep up_from
kept-hours p P none f zero more = none
kept-hours p P none f (suc c) more =
    let later = kept-hours p P none (f + 1) c (λ k a b. more k (omega arith) (omega arith)) in
    chosen P (p (hour f)) (λ e. more f (omega arith) (omega arith) e _ later) (λ e. later)

-- `first_from p j f` is from j up to j + f, passes the test if j + f does, and nothing from j on that passes is less.
module _ (p : ℕ → Bool) where
  pub first-from : (j f : ℕ) → j ≤ first_from p j f
  unfolding first_from
  first-from j zero = omega arith
  first-from j (suc f) =
      let h = first-from (suc j) f in
      chosen (λ m. j ≤ m) (p j) (λ e. omega arith) (λ e. omega arith)

  pub first-upto : (j f : ℕ) → first_from p j f ≤ j + f
  unfolding first_from
  first-upto j zero = omega arith
  first-upto j (suc f) =
      let h = first-upto (suc j) f in
      chosen (λ m. m ≤ j + suc f) (p j) (λ e. omega arith) (λ e. omega arith)

  pub first_passes : (j f : ℕ) → p (j + f) ≡ true → p (first_from p j f) ≡ true
  unfolding first_from
  first_passes j zero e = ap p (sym (add-zero j)) ∙ e
  first_passes j (suc f) e =
      let m : suc j + f ≡ j + suc f = omega arith in
      let h = first_passes (suc j) f (ap p m ∙ e) in
      chosen (λ i. p i ≡ true) (p j) (λ q. q) (λ q. h)

  pub first-least : (j f i : ℕ) → j ≤ i → i ≤ j + f → p i ≡ true → first_from p j f ≤ i
  unfolding first_from
  first-least j zero i a b e = a
  first-least j (suc f) i a b e =
      let h = first-least (suc j) f i in
      chosen (λ m. m ≤ i) (p j) (λ q. a)
      (λ q. h (⊎_elim (λ m. clash (sym q ∙ ap p m ∙ e)) (λ m. m) (eq-or-lt_of_le a)) (omega arith) e)
