-- Each answer of opening a record, its checks in their order. Assumes nothing.
use Rattle.kit.proofs.{◌≡◌, sym, ◌∙◌, Bool, true, false, List, [], ◌∷◌, ℕ, ◌+◌, ◌≤◌, ◌<◌, arith, ltb, length, get_or}
use Rattle.kit.proofs.{Err}
use Rattle.words.specs.Said.{opened_as}
use Rattle.kit.proofs.{drop-cons, lt-ltb, le-ltb, ne_eqb, eq-eqb}
use Rattle.sizes.proofs.TableChecks as checked
use Rattle.words.specs.{version}
use Rattle.words.specs.declared.Refusal.{Refusal}
use Rattle.words.specs.declared.Refusal.TheVariants.{BadHours, CutShort, BadVersion, BadLength, BytesAfter}
use Rattle.om3.specs.Document.{bad_hours, P, refuses, refuse_if, in_order, check_hours, number_from, length_for}
use Rattle.om3.specs.Document.{record_length}
use Rattle.om3.specs.Document.{record_size, header_size, length_in, version_in, hours_in, check_length, check_cut}
use Rattle.om3.specs.Document.{check_after}
use Rattle.om3.specs.Document.{opening_checks, opening}

module _ (r : List ℕ) where
  refused : (why : Refusal) → in_order (opening_checks r) ≡ refuses why → Err why ≡ opening r
  unfolding opening
  refused why e = rw e

  pub under-seven : length r < header_size → Err CutShort ≡ opening r
  unfolding in_order
  under-seven h = refused CutShort (rw (lt-ltb (length r) header_size h))

  version-byte : header_size ≤ length r → version_in r ≡ get_or r 4 0
  unfolding number_from
  version-byte h =
      let four : 4 < length r = omega arith in
      rw (drop-cons r 4 0 four) (omega arith)

  pub other-version : header_size ≤ length r → (get_or r 4 0 ≡ version → ⊥) → Err BadVersion ≡ opening r
  unfolding in_order
  other-version h ne =
      refused BadVersion
      (rw (le-ltb (length r) header_size h, version-byte h, ne_eqb (get_or r 4 0) version ne))

  -- The header is whole, of version 1, and states n hours.
  module _ {n : ℕ} (long : header_size ≤ length r) (is_version : get_or r 4 0 ≡ version) (hours : n ≡ hours_in r) where
    -- What is left to check after it.
    after-header : in_order (opening_checks r)
        ≡ in_order (check_hours (hours_in r) ∷ check_length r ∷ check_cut r ∷ check_after r ∷ [])
    unfolding in_order
    after-header = rw (le-ltb (length r) header_size long, version-byte long, is_version)

    module _ {bad : Bool} (told : bad ≡ bad_hours n) where
      pub bad-hours : bad ≡ true → Err BadHours ≡ opening r
      unfolding in_order
      bad-hours b = refused BadHours (after-header ∙ rw (rw hours at (sym told ∙ b)))

      -- n is a number of hours, their record has p places and this size, and the first field states x bytes.
      module _ (good : bad ≡ false) {p size x : ℕ} (places : p ≡ P n) (sized : size ≡ 4 + length_for p)
          (field : x ≡ length_in r) where
        hours-good : bad_hours (hours_in r) ≡ false
        hours-good = rw hours at (sym told ∙ good)

        whole : size ≡ record_size (hours_in r)
        whole = rw hours at (rw places at sized)

        pub other_length : (4 + x ≡ size → ⊥) → Err BadLength ≡ opening r
        unfolding in_order
        other_length ne =
            let ne' : length_in r ≡ record_length (hours_in r) → ⊥ = λ e. ne (rw (whole, field) (omega (arith, e))) in
            refused BadLength
            (after-header ∙ rw (hours-good, ne_eqb (length_in r) (record_length (hours_in r)) ne'))

        module _ (same : 4 + x ≡ size) where
          -- What is left to check after the fields.
          after-fields : in_order (opening_checks r)
              ≡ in_order
              (refuse_if (ltb (length r) size) CutShort ∷ refuse_if (ltb size (length r)) BytesAfter ∷ [])
          unfolding in_order
          after-fields =
              let right : length_in r ≡ record_length (hours_in r) = omega (arith, whole) in
              let stated : 4 + length_in r ≡ size = omega arith in
              after-header ∙ rw (hours-good, eq-eqb _ _ right, stated)

          pub fewer_bytes : length r < size → Err CutShort ≡ opening r
          unfolding in_order
          fewer_bytes f = refused CutShort (after-fields ∙ rw (lt-ltb (length r) size f))

          pub more_bytes : size < length r → Err BytesAfter ≡ opening r
          unfolding in_order
          more_bytes f =
              refused BytesAfter
              (after-fields ∙ rw (le-ltb (length r) size (omega arith), lt-ltb size (length r) f))

          pub whole-record : size ≤ length r → length r ≤ size → opened_as n p ≡ opening r
          unfolding in_order opening
          whole-record f g = rw (after-fields, le-ltb (length r) size f, le-ltb size (length r) g, places, hours)

-- What `open_record` answers by, and that P is a number of places.
pub ruleset opening_laws = (
  under-seven,
  other-version,
  bad-hours,
  other_length,
  fewer_bytes,
  more_bytes,
  whole-record,
  checked.places-most,
)
