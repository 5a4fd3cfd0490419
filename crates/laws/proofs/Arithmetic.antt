-- Rounding up is the ceiling, and the digits that are printed for a number are its decimal digits. Assumes nothing.
use Rattle.kit.proofs.{◌≡◌, refl, ◌∙◌, true, cond, ⊎_elim, List, [], ◌∷◌, ◌++◌, foldl-append, ℕ, zero, suc, ◌+◌, ◌-◌}
use Rattle.kit.proofs.{◌*◌, ◌/◌, ◌%◌, ◌≤◌, ◌<◌, suc-mul, le-div_iff_mul-le, div-mul-le_self, le_refl, arith, ltb}
use Rattle.kit.proofs.{get_or, le-leb, ltb-true, ltb-false}
use Rattle.om3.specs.Document.{every, ceil, ascii, zero_digit, digit, is_digit, with_digit, value_of, digits_of}
use Rattle.om3.specs.Document.{decimal}
use Rattle.laws.proofs.{NodeLists.every_append, Tests.chosen, Tests.below_or_not, Tests.both_true}

-- m / w rounded up, times w: at least m, and less than m + w.
module _ (m w : ℕ) (some : 1 ≤ w) where
  pub ceil-reaches : m ≤ ceil m w * w
  ceil-reaches =
      ⊎_elim (λ p. omega (arith, suc-mul (ceil m w) w))
      (λ q. absurd (omega (arith, (le-div_iff_mul-le some).1 q)))
      (below_or_not (m + (w - 1)) (suc (ceil m w) * w))

  pub ceil-least : ceil m w * w < m + w
  ceil-least = omega (arith, div-mul-le_self (m + (w - 1)) w)

-- What holds of a number below ten and its digit, and of a number and its digits if it does of its tenth and the digits
-- before the last, holds of every number and its digits.
module _ (Q : ℕ → List ℕ → Type 0) (one : (d : ℕ) → d < 10 → Q d (digit d ∷ []))
    (further : (m : ℕ) (ds : List ℕ) → 10 ≤ m → Q (m / 10) ds → Q m (ds ++ digit (m % 10) ∷ [])) where
  either : {m c : ℕ} {ds es : List ℕ} → (m < c → Q m ds) → (c ≤ m → Q m es) → Q m (cond (ltb m c) ds es)
  either {m} {c} f g = chosen (Q m) (ltb m c) (λ e. f (ltb-true m c e)) (λ e. g (ltb-false m c e))

  of-digits : (more m : ℕ) → m ≤ more → Q m (digits_of more m)
  unfolding digits_of
  of-digits zero m h = one m (omega arith)
  of-digits (suc more) m h =
      either (λ few. one m (omega arith))
      (λ ten. further m (digits_of more (m / 10)) (omega arith) (of-digits more (m / 10) (omega arith)))

  of-decimal : (m : ℕ) → Q m (decimal m)
  unfolding decimal
  of-decimal m = of-digits m m (le_refl m)

-- Read as a numeral, the digits of m have the value m.
pub decimal-back : (m : ℕ) → value_of (decimal m) ≡ m
decimal-back =
    of-decimal (λ m ds. value_of ds ≡ m) (λ d h. omega arith)
    (λ m ds h e. foldl-append with_digit 0 ds (digit (m % 10) ∷ []) ∙ omega (arith, e))

-- The first digit of m is not 0, if m is not; 0 has one digit.
first-kept : (ds es : List ℕ) → zero_digit < get_or ds 0 0 → zero_digit < get_or (ds ++ es) 0 0
first-kept [] es h = absurd (omega arith)
first-kept (d ∷ ds) es h = h

pub decimal-first : (m : ℕ) → 1 ≤ m → zero_digit < get_or (decimal m) 0 0
decimal-first =
    of-decimal (λ m ds. 1 ≤ m → zero_digit < get_or ds 0 0) (λ d h some. omega arith)
    (λ m ds h e some. first-kept ds (digit (m % 10) ∷ []) (e (omega arith)))

pub decimal-zero : decimal 0 ≡ ascii "0"
unfolding decimal digits_of
decimal-zero = refl

-- Each is a digit.
one-digit : (d : ℕ) → d < 10 → every is_digit (digit d ∷ []) ≡ true
unfolding every
one-digit d h = rw (le-leb zero_digit (digit d) (omega arith), le-leb (digit d) (digit 9) (omega arith))

pub decimal-digits : (m : ℕ) → every is_digit (decimal m) ≡ true
decimal-digits =
    of-decimal (λ m ds. every is_digit ds ≡ true) one-digit
    (λ m ds h e. every_append is_digit ds (digit (m % 10) ∷ []) ∙ both_true e (one-digit (m % 10) (omega arith)))
