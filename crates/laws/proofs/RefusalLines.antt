-- The line that is printed for a refusal tells its cause, since number and place are read back from it; and columns
-- that are printed begin otherwise. Assumes nothing.
use Rattle.kit.proofs.{◌≡◌, refl, sym, ap, ap₂, ◌∙◌, true, false, cond, List, [], ◌∷◌, ◌++◌, append_assoc, ℕ, ℤ, eqb}
use Rattle.kit.proofs.{get_or, drop, arith}
use Rattle.signed.proofs.{clash}
use Rattle.words.specs.{number_of, place_of, declared.Refusal.Refusal}
use Rattle.words.specs.declared.Refusal.TheVariants.{BadHours, BadReading, ShortBuffer, Unsound, BadWindow, BadColumn}
use Rattle.words.specs.declared.Refusal.TheVariants.{TooDeep, CutShort, BadVersion, BadLength, BytesAfter, BadLine}
use Rattle.words.specs.declared.Refusal.TheVariants.{BadPlace, BadFlag, BadStart}
use Rattle.om3.specs.Document.{every, hour, passes, refuses, ascii, line_feed, space, is_digit, value_of, decimal}
use Rattle.om3.specs.Document.{refusal_line, drawn_text}
use Rattle.laws.proofs.{Tests.and_left, Tests.and_right, Arithmetic.decimal-back, Arithmetic.decimal-digits}

-- Digits up to a sign that is none are found again, and so is what follows it.
module _ (c : ℕ) (end : is_digit c ≡ false) where
  digits-ended : (ds es r q : List ℕ) → every is_digit ds ≡ true → every is_digit es ≡ true → ds ++ c ∷ r ≡ es ++ c ∷ q
      → (ds ≡ es) × (r ≡ q)
  unfolding every
  digits-ended [] [] r q x y e = (refl, cc)
  digits-ended [] (f ∷ es) r q x y e =
      let same : c ≡ f = cc in
      clash (sym end ∙ ap is_digit same ∙ and_left (is_digit f) (every is_digit es) y)
  digits-ended (d ∷ ds) [] r q x y e =
      let same : c ≡ d = cc in
      clash (sym end ∙ ap is_digit same ∙ and_left (is_digit d) (every is_digit ds) x)
  digits-ended (d ∷ ds) (f ∷ es) r q x y e =
      let same : d ≡ f = cc in
      let further : ds ++ c ∷ r ≡ es ++ c ∷ q = cc in
      let x' = and_right (is_digit d) (every is_digit ds) x in
      let y' = and_right (is_digit f) (every is_digit es) y in
      let h = digits-ended ds es r q x' y' further in
      (ap₂ ◌∷◌ same h.0, h.1)

  number-ended : (m k : ℕ) (r q : List ℕ) → decimal m ++ c ∷ r ≡ decimal k ++ c ∷ q → (m ≡ k) × (r ≡ q)
  number-ended m k r q e =
      let h = digits-ended (decimal m) (decimal k) r q (decimal-digits m) (decimal-digits k) e in
      (sym (decimal-back m) ∙ ap value_of h.0 ∙ decimal-back k, h.1)

-- After `refused ` the number, after ` at ` the place.
abbrev from_at : Refusal → List ℕ
from_at why = ascii "at " ++ (decimal (place_of why) ++ line_feed ∷ [])

line-parts : (why : Refusal) → drop 8 (refusal_line why) ≡ decimal (number_of why) ++ space ∷ from_at why
line-parts why = simp append_assoc

line-tells : (y z : Refusal) → refusal_line y ≡ refusal_line z → (number_of y ≡ number_of z) × (place_of y ≡ place_of z)
line-tells y z e =
    let same = sym (line-parts y) ∙ ap (drop 8) e ∙ line-parts z in
    let number = number-ended space refl (number_of y) (number_of z) (from_at y) (from_at z) same in
    let place = number-ended line_feed refl (place_of y) (place_of z) [] [] (ap (drop 3) number.1) in
    (number.0, place.0)

-- The refusal of a number and a place.
abbrev refusal_of : (number place : ℕ) → Refusal
refusal_of number place =
    cond (eqb number 1) BadHours
    (cond (eqb number 2) (BadReading (hour place))
    (cond (eqb number 3) ShortBuffer
    (cond (eqb number 4) (Unsound (record { 0 = place }))
    (cond (eqb number 5) BadWindow
    (cond (eqb number 6) BadColumn
    (cond (eqb number 7) TooDeep
    (cond (eqb number 8) CutShort
    (cond (eqb number 9) BadVersion
    (cond (eqb number 10) BadLength
    (cond (eqb number 11) BytesAfter
    (cond (eqb number 12) (BadLine place)
    (cond (eqb number 13) BadPlace
    (cond (eqb number 14) (BadFlag (hour place)) BadStart)))))))))))))

refusal-back : (why : Refusal) → refusal_of (number_of why) (place_of why) ≡ why
refusal-back BadHours = refl
refusal-back (BadReading h) = refl
refusal-back ShortBuffer = refl
refusal-back (Unsound i) = refl
refusal-back BadWindow = refl
refusal-back BadColumn = refl
refusal-back TooDeep = refl
refusal-back CutShort = refl
refusal-back BadVersion = refl
refusal-back BadLength = refl
refusal-back BytesAfter = refl
refusal-back (BadLine i) = refl
refusal-back BadPlace = refl
refusal-back (BadFlag h) = refl
refusal-back BadStart = refl

-- One line has one cause.
pub line-one : (y z : Refusal) → refusal_line y ≡ refusal_line z → y ≡ z
line-one y z e =
    let tells = line-tells y z e in
    sym (refusal-back y) ∙ ap₂ refusal_of tells.0 tells.1 ∙ refusal-back z

-- A drawn text begins with another letter.
pub drawn-apart : (n : ℕ) (s : List ℤ) (a b w : ℕ) (why : Refusal) → drawn_text n s a b w ≡ refusal_line why
    → passes ≡ refuses why
drawn-apart n s a b w why e =
    let begins : ◌≡◌ {A = ℕ} 99 114 = ap (λ bs. get_or bs 0 0) e in
    absurd (omega arith)
