-- Numbers spelled byte by byte: one byte more at the low end, read or written. Assumes nothing.
use Rattle.kit.proofs.{◌≡◌, refl, sym, ap, ◌∙◌, List, [], ◌∷◌, ◌++◌, append-nil, ℕ, suc, ◌+◌, ◌-◌, ◌*◌, ◌/◌, ◌%◌, ◌^◌}
use Rattle.kit.proofs.{◌≤◌, ◌<◌, pow-suc, div-div-eq-div-mul, mul_assoc, add-mul, pow-le-pow_right, div-one}
use Rattle.kit.proofs.{le_refl, arith, lit<, length, get_or, take, set, length-append, w64, Fits, take-length}
use Rattle.kit.proofs.{take_all, take-suc, set_at, length-take-le, append_snoc}
use Rattle.om3.specs.Document.{bytes_of, number_from}

-- A byte more multiplies what was spelled before by 256.
number-snoc : (bs : List ℕ) (b : ℕ) → number_from (bs ++ (b ∷ [])) ≡ number_from bs * 256 + b
unfolding number_from
number-snoc [] b = omega arith
number-snoc (x ∷ bs) b =
    let n : length (bs ++ (b ∷ [])) ≡ suc (length bs) = omega (arith, length-append bs (b ∷ [])) in
    let p : x * (256 ^ length bs * 256) ≡ x * 256 ^ length bs * 256 = sym (mul_assoc x (256 ^ length bs) 256) in
    rw (n, pow-suc 256 (length bs), number-snoc bs b)
    (omega (arith, p, add-mul (x * 256 ^ length bs) (number_from bs) 256))

-- The first k bytes are read and spell x.
pub record Read (bs : List ℕ) (k x : ℕ) : Type 0 where
  pub within : k ≤ length bs
  pub spelled : x ≡ number_from (take k bs)
  pub small : x < 256 ^ k

module _ (bs : List ℕ) where
  pub read_none : Read bs 0 0
  unfolding number_from
  read_none = record { within = omega arith; spelled = refl; small = omega arith }

  pub read_more : (k x b : ℕ) → Read bs k x → k < length bs → b ≡ get_or bs k 0 → b < 256
      → Read bs (k + 1) (x * 256 + b)
  read_more k x b r h e f =
      let n : k + 1 ≡ suc k = omega arith in
      record {
        within = omega arith;
        spelled =
            rw (n, r.spelled, e) (sym (ap number_from (take-suc bs k 0 h) ∙ number-snoc (take k bs) (get_or bs k 0)));
        small = rw (n, pow-suc 256 k) (omega (arith, r.small));
      }

  -- Fewer than four bytes leave room for one more in any number of 32 bits.
  module _ (k x : ℕ) (r : Read bs k x) (h : k < length bs) (four : length bs ≤ 4) where
    small : x < 256 ^ 3
    small =
        let few : k ≤ 3 = omega arith in
        omega (arith, r.small, pow-le-pow_right {n = 256} (lit< tt) few)

    pub shifted_fits : Fits w64 (x * 256)
    shifted_fits = omega (arith, small)

  -- All bytes spell the whole number.
  pub read_all : (k x : ℕ) → Read bs k x → length bs ≤ k → (x ≡ number_from bs) × (x < 256 ^ length bs)
  read_all k x r h =
      let e : k ≡ length bs = omega (arith, r.within) in
      (r.spelled ∙ ap number_from (take_all k bs h), rw e at r.small)

-- The low bytes of x stand from place k on, and `rest` is what is left of x above them.
pub record Put (x : ℕ) (old out : List ℕ) (rest k : ℕ) : Type 0 where
  pub within : k ≤ length old
  pub spelled : out ≡ take k old ++ bytes_of (length old - k) x
  pub above : rest ≡ x / 256 ^ (length old - k)

module _ (x : ℕ) (old : List ℕ) where
  pub put-none : Put x old old x (length old)
  unfolding bytes_of
  put-none =
      let z : length old - length old ≡ 0 = omega arith in
      record {
        within = le_refl (length old);
        spelled = rw (z, take-length old) (sym (append-nil old));
        above = rw z (sym (div-one x));
      }

  -- One byte more, before them.
  put-before : (w j : ℕ) → j < length old
      → set (take (suc j) old ++ bytes_of w x) j (x / 256 ^ w % 256) ≡ take j old ++ bytes_of (suc w) x
  unfolding bytes_of
  put-before w j h =
      let split = ap (λ (l : List ℕ). l ++ bytes_of w x) (take-suc old j 0 h) in
      rw (split ∙ append_snoc (take j old) (get_or old j 0) (bytes_of w x))
      (set_at (take j old) (get_or old j 0) (bytes_of w x) (x / 256 ^ w % 256) j (length-take-le j old (omega arith)))

  pub put-more : (out : List ℕ) (rest k : ℕ) → Put x old out rest k → 0 < k
      → Put x old (set out (k - 1) (rest % 256)) (rest / 256) (k - 1)
  put-more out rest k p h =
      let w = length old - k in
      let j = k - 1 in
      let one : k ≡ suc j = omega arith in
      let wider : length old - j ≡ suc w = omega (arith, p.within) in
      let below : j < length old = omega (arith, p.within) in
      record {
        within = omega (arith, p.within);
        spelled = rw (wider, p.spelled, p.above) (rw (← one) at (put-before w j below));
        above =
            rw (wider, p.above)
            (div-div-eq-div-mul x (256 ^ w) 256 ∙ ap (λ (m : ℕ). x / m) (sym (pow-suc 256 w)));
      }
