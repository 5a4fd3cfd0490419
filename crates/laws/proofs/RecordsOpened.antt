-- Opening takes a list of numbers exactly if its fields and its length fit one another; a written record is taken.
-- Assumes nothing.
use Rattle.kit.proofs.{◌≡◌, sym, false, not, List, [], ◌∷◌, ◌↔◌, ℕ, ◌+◌, ◌*◌, ◌≤◌, ◌<◌, arith, leb, ltb, eqb, pos, Err}
use Rattle.kit.proofs.{length, get_or, le-ltb, leb-false, ltb-false, eq-eqb, eqb-true, not-false}
use Rattle.words.specs.{largest_hours, version, declared.Refusal.Refusal}
use Rattle.words.specs.declared.Refusal.TheVariants.{BadHours, CutShort, BadVersion, BadLength, BytesAfter}
use Rattle.om3.specs.Document.{bad_hours, P, Table, passes, refuses, in_order, table_short, record_length, record_of}
use Rattle.om3.specs.Document.{header_size, length_in, version_in, hours_in, coefficient_in, table_in, opening_checks}
use Rattle.om3.specs.Document.{Openable, check_place, asking_view, asking}
use Rattle.laws.proofs.{Tests.by-test, Lists.map-up-from-0, Examined.first_absent, Examined.in-order-append}
use Rattle.laws.proofs.{Taken.good-hours}
use Rattle.laws.proofs.Records.{record-length-in, record-version-in, record-hours-in, record-size}

module _ (r : List ℕ) where
  formed-opens : Openable r → in_order (opening_checks r) ≡ passes
  unfolding in_order
  formed-opens w =
      let long : header_size ≤ length r = omega (arith, w.sized) in
      let whole : 4 + length_in r ≤ length r = omega (arith, w.sized, w.stated) in
      let over : length r ≤ 4 + length_in r = omega (arith, w.sized, w.stated) in
      rw (
        le-ltb _ _ long,
        eq-eqb _ _ w.versioned,
        w.timed,
        eq-eqb _ _ w.stated,
        le-ltb _ _ whole,
        le-ltb _ _ over,
      )

  pub opens-formed : in_order (opening_checks r) ≡ passes → Openable r
  opens-formed h =
      let a = first_absent (ltb (length r) header_size) CutShort _ h in
      let b = first_absent (not (eqb (version_in r) version)) BadVersion _ a.1 in
      let c = first_absent (bad_hours (hours_in r)) BadHours _ b.1 in
      let d = first_absent (not (eqb (length_in r) (record_length (hours_in r)))) BadLength _ c.1 in
      let e = first_absent (ltb (length r) (4 + length_in r)) CutShort _ d.1 in
      let f = first_absent (ltb (4 + length_in r) (length r)) BytesAfter _ e.1 in
      let same : length_in r ≡ record_length (hours_in r) = eqb-true _ _ (not-false _ d.0) in
      record {
        versioned = eqb-true _ _ (not-false _ b.0);
        timed = c.0;
        stated = same;
        sized = omega (arith, ltb-false (length r) _ e.0, ltb-false _ (length r) f.0);
      }

  -- [refusals 8, 9, 10, 11, 19]
  pub opening-exactly : (in_order (opening_checks r) ≡ passes) ↔ Openable r
  opening-exactly = (opens-formed, formed-opens)

-- A written record is taken.
pub record-opens : (n : ℕ) (t : Table) → 1 ≤ n → n ≤ largest_hours → table_short n t ≡ false
    → in_order (opening_checks (record_of n t)) ≡ passes
record-opens n t some most room =
    let same = record-hours-in n t most in
    formed-opens (record_of n t)
    (record {
      versioned = record-version-in n t;
      timed = rw same (good-hours n some most);
      stated = rw same (record-length-in n t);
      sized = rw same (record-size n t room);
    })

-- Of a record that opening takes, the bytes reach each coefficient: asking it, by its own checks, is asking its view.
pub asking-opened : (r : List ℕ) (p : ℕ) → in_order (opening_checks r) ≡ passes
    → asking r p ≡ asking_view r (P (hours_in r)) p
unfolding asking asking_view in_order
asking-opened r p opens =
    let parted = in-order-append (opening_checks r) (check_place (P (hours_in r)) p ∷ []) in
    rw (parted, opens) (by-test (leb (P (hours_in r)) p) (λ e. rw e) (λ e. rw (e, reaches e)))
  where
    reaches : leb (P (hours_in r)) p ≡ false → ltb (length r) (header_size + 3 * p + 3) ≡ false
    reaches e =
        let below : p < P (hours_in r) = leb-false _ _ e in
        let there : header_size + 3 * p + 3 ≤ length r = omega (arith, (opens-formed r opens).sized) in
        le-ltb _ _ there

-- One that it refuses is refused by the same cause.
pub asking-refused : (r : List ℕ) (p : ℕ) (why : Refusal) → in_order (opening_checks r) ≡ refuses why
    → asking r p ≡ Err why
unfolding asking
asking-refused r p why e = rw (in-order-append (opening_checks r) (check_place (P (hours_in r)) p ∷ []), e)

-- The coefficient at a place, straight from the bytes, is that of the table unpacked from them. [level 3]
pub asked-unpacked : (r : List ℕ) (p : ℕ) → p < P (hours_in r)
    → coefficient_in r p ≡ get_or (table_in r).coefficients p (pos 0)
unfolding table_in
asked-unpacked r p h = sym (map-up-from-0 (coefficient_in r) (pos 0) (P (hours_in r)) p h)
