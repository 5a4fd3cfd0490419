-- Each answer of asking a record, which is opened before or not. Assumes nothing.
use Rattle.kit.proofs.{◌≡◌, refl, sym, ap, ◌∙◌, List, ℕ, ◌+◌, ◌-◌, ◌*◌, ◌/◌, ◌^◌, ◌≤◌, ◌<◌, arith, ℤ, length, take}
use Rattle.kit.proofs.{Err, Ok, Result}
use Rattle.std.specs.List.{slice_range}
use Rattle.words.specs.Said.{opened_as}
use Rattle.kit.proofs.{drop, length-drop, take_all, drop-drop, mag, w32, to_z, of_z, lt-leb, le-leb, lt-ltb, le-ltb}
use Rattle.signed.proofs.{reads-back}
use Rattle.words.specs.declared.{Refusal.Refusal, Refusal.TheVariants.BadPlace, Refusal.TheVariants.CutShort}
use Rattle.words.specs.declared.{Opening.Opening}
use Rattle.om3.specs.Document.{P, Check, passes, refuses, in_order, answer_by, signed_from, header_size, hours_in}
use Rattle.om3.specs.Document.{coefficient_in, opening_checks, opening, asking_view, asking}
use Rattle.laws.proofs.RecordsOpened.{asking-opened}
use Rattle.packing.specs.Packing.{coefficient_from}

module _ (r : List ℕ) (places p : ℕ) where
  pub past-places : places ≤ p → Err BadPlace ≡ asking_view r places p
  unfolding asking_view in_order
  past-places h = rw (le-leb places p h)

  module _ (below : p < places) where
    pub not-reached : length r < header_size + 3 * p + 3 → Err CutShort ≡ asking_view r places p
    unfolding asking_view in_order
    not-reached h = rw (lt-leb places p below, lt-ltb (length r) (header_size + 3 * p + 3) h)

    -- What comes after the header.
    module _ (packed : List ℕ) (long : header_size ≤ length r) (rest : packed ≡ slice_range r header_size (length r))
      where
        packed-tail : packed ≡ drop header_size r
        packed-tail =
            rest ∙ take_all (length r - header_size) (drop header_size r) (omega (arith, length-drop header_size r))

        packed-length : length packed ≡ length r - header_size
        packed-length = ap length packed-tail ∙ length-drop header_size r

        pub few-packed : length packed / 3 ≤ p → Err CutShort ≡ asking_view r places p
        few-packed h = not-reached (omega (arith, packed-length))

        spelled : coefficient_from packed p ≡ coefficient_in r p
        spelled =
            ap (λ (bs : List ℕ). signed_from (take 3 (drop (3 * p) bs))) packed-tail
            ∙ ap (λ (bs : List ℕ). signed_from (take 3 bs)) (drop-drop (3 * p) header_size r)

        pub coefficient-there : p < length packed / 3 → (z : ℤ) → z ≡ coefficient_from packed p → mag z < 2 ^ 31
            → Ok (to_z w32 (of_z w32 z)) ≡ asking_view r places p
        unfolding asking_view in_order
        coefficient-there h z e m =
            let reached : header_size + 3 * p + 3 ≤ length r = omega (arith, packed-length) in
            rw (lt-leb places p below, le-ltb (length r) (header_size + 3 * p + 3) reached, reads-back z m, e, spelled)

-- What `ask` answers by.
pub ruleset asking_laws = (past-places, not-reached, few-packed, coefficient-there)

-- What an answer of opening tells: how many hours, and how many places.
abbrev pub hours_told : Result Opening Refusal → ℕ
hours_told (Ok o) = o.hours
hours_told (Err why) = 0

abbrev pub places_told : Result Opening Refusal → ℕ
places_told (Ok o) = o.places
places_told (Err why) = 0

-- The answer of opening by its checks.
abbrev pub told : List ℕ → Check → Result Opening Refusal
told r c = answer_by Err c (opened_as (hours_in r) (P (hours_in r)))

-- Opened, and then asked.
module _ (r : List ℕ) (p : ℕ) where
  pub opened-asked : (n places : ℕ) → opened_as n places ≡ opening r → asking_view r places p ≡ asking r p
  unfolding opening
  opened-asked n places e = by (in_order (opening_checks r)) refl e
    where
      by : (c : Check) → in_order (opening_checks r) ≡ c → opened_as n places ≡ told r c
          → asking_view r places p ≡ asking r p
      by passes opens h =
          let same : places ≡ P (hours_in r) = ap places_told h in
          ap (λ (m : ℕ). asking_view r m p) same ∙ sym (asking-opened r p opens)
      by (refuses why) opens h = cc
