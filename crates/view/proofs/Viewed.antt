-- What the view of a record holds, and what it answers. Assumes nothing.
use Rattle.kit.proofs.{◌≡◌, refl, sym, ap, ◌∙◌, List, ℕ, ◌+◌, ◌*◌, ◌≤◌, ◌<◌, arith, length, lt-leb, le-ltb}
use Rattle.kit.proofs.{Err, Ok, Result}
use Rattle.std.specs.Borrow.{Bor}
use Rattle.std.specs.Result.{result_unwrap_or}
use Rattle.words.specs.declared.{Refusal.Refusal, Refusal.TheVariants.BadPlace, Opening.Opening}
use Rattle.om3.specs.Document.{P, Check, passes, refuses, in_order, answer_by, header_size, hours_in, coefficient_in}
use Rattle.om3.specs.Document.{opening_checks, opening, asking_view, asking}
use Rattle.laws.proofs.RecordsOpened.{opens-formed, asking-opened, asking-refused}
use Rattle.opening.proofs.Asked.{past-places, places_told, told}
use Rattle.view.specs.declared.View.{View}
use Rattle.view.specs.View.{view_places, view_of, viewing}

-- What the view of some bytes is, by what opening answers of them.
module _ (bytes : Bor (List ℕ)) where
  abbrev view-with : ℕ → View
  view-with places = record { bytes = bytes; places = places }

  abbrev places-by : Check → ℕ
  places-by c = answer_by (λ why. 0) c (P (hours_in bytes.now))

  abbrev viewing-by : Check → Result View Refusal
  viewing-by c = answer_by Err c (Ok (view-with (places-by c)))

  viewing-checked : viewing-by (in_order (opening_checks bytes.now)) ≡ viewing bytes
  unfolding view_places
  viewing-checked = refl

  -- A record that opening takes has a view of as many places as opening says; why other bytes are refused is told.
  pub opened : {x : Result Opening Refusal} (o : Opening) → x ≡ Ok o → x ≡ opening bytes.now
      → Ok (view-with o.places) ≡ viewing bytes
  unfolding opening
  opened o is e = by (in_order (opening_checks bytes.now)) (sym is ∙ e) ∙ viewing-checked
    where
      by : (c : Check) → Ok o ≡ told bytes.now c → Ok (view-with o.places) ≡ viewing-by c
      by passes h = ap (λ (places : ℕ). Ok (view-with places)) (ap places_told h)
      by (refuses why) h = cc

  pub refused : {x : Result Opening Refusal} {why : Refusal} → x ≡ Err why → x ≡ opening bytes.now
      → Err why ≡ viewing bytes
  unfolding opening
  refused {why = why} is e = by (in_order (opening_checks bytes.now)) (sym is ∙ e) ∙ viewing-checked
    where
      by : (c : Check) → Err why ≡ told bytes.now c → Err why ≡ viewing-by c
      by passes h = cc
      by (refuses other) h = cc

  -- The view without the refusals: of other bytes it has no place.
  pub viewed : result_unwrap_or (viewing bytes) (view-with 0) ≡ view_of bytes
  unfolding view_places
  viewed = by (in_order (opening_checks bytes.now))
    where
      by : (c : Check) → result_unwrap_or (viewing-by c) (view-with 0) ≡ view-with (places-by c)
      by passes = refl
      by (refuses why) = refl

  -- Asking it is asking the record, or telling why opening refuses.
  module _ (p : ℕ) where
    pub asked : {x : Result View Refusal} (v : View) → x ≡ Ok v → x ≡ viewing bytes
        → asking_view v.bytes.now v.places p ≡ asking bytes.now p
    unfolding view_places
    asked v is e = by (in_order (opening_checks bytes.now)) refl (sym is ∙ e)
      where
        by : (c : Check) → in_order (opening_checks bytes.now) ≡ c → Ok v ≡ viewing-by c
            → asking_view v.bytes.now v.places p ≡ asking bytes.now p
        by passes opens h =
            let same : v ≡ view-with (P (hours_in bytes.now)) = cc in
            ap (λ (w : View). asking_view w.bytes.now w.places p) same ∙ sym (asking-opened bytes.now p opens)
        by (refuses why) opens h = cc

    pub asked_refused : {x : Result View Refusal} {why : Refusal} → x ≡ Err why → x ≡ viewing bytes
        → Err why ≡ asking bytes.now p
    unfolding view_places
    asked_refused {why = why} is e = by (in_order (opening_checks bytes.now)) refl (sym is ∙ e)
      where
        by : (c : Check) → in_order (opening_checks bytes.now) ≡ c → Err why ≡ viewing-by c
            → Err why ≡ asking bytes.now p
        by passes opens h = cc
        by (refuses other) opens h =
            let same : why ≡ other = cc in
            ap Err same ∙ sym (asking-refused bytes.now p other opens)

module _ (r : List ℕ) (p : ℕ) where
  -- The view of an opened record answers what the record answers, that of bytes that opening refuses 13.
  pub opened_view : in_order (opening_checks r) ≡ passes → asking_view r (view_places r) p ≡ asking r p
  unfolding view_places
  opened_view opens = rw opens (sym (asking-opened r p opens))

  pub refused-view : (why : Refusal) → in_order (opening_checks r) ≡ refuses why
      → Err BadPlace ≡ asking_view r (view_places r) p
  unfolding view_places
  refused-view why refuses_it = past-places r (view_places r) p (rw refuses_it (omega arith))

  -- The bytes reach each place of their view ..
  reaches : p < view_places r → header_size + 3 * p + 3 ≤ length r
  unfolding view_places
  reaches h = by (in_order (opening_checks r)) refl h
    where
      by : (c : Check) → in_order (opening_checks r) ≡ c → p < answer_by (λ why. 0) c (P (hours_in r))
          → header_size + 3 * p + 3 ≤ length r
      by passes e below = omega (arith, (opens-formed r e).sized)
      by (refuses why) e below = omega arith

  -- .. so it answers each with the coefficient there, and never 8.
  pub view-coefficient : p < view_places r → asking_view r (view_places r) p ≡ Ok (coefficient_in r p)
  unfolding asking_view in_order
  view-coefficient h = rw (lt-leb (view_places r) p h, le-ltb (length r) (header_size + 3 * p + 3) (reaches h))
