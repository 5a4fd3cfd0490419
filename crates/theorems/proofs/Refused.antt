-- What a refused call of the boundary tells and leaves. What a call answers and what it leaves in a lent buffer are
-- decided by the same checks, so one case distinction over them serves all calls. Assumes nothing.
use Rattle.kit.proofs.{◌≡◌, refl, sym, ap, ◌∙◌, List, ◌↔◌, ℕ, arith, Option, None, Some, Result, Ok, Err}
use Rattle.words.specs.declared.{Summary.Summary, Refusal.Refusal}
use Rattle.words.specs.{number_of, place_of}
use Rattle.om3.specs.Document.{Check, passes, refuses, in_order, answer_by, levels, lent, answer, day, before}
use Rattle.om3.specs.Document.{change_of, checked_by, opening, asking_view, edges, stopped, finished, day_change}
use Rattle.laws.proofs.Examined.{first-cause}
use Rattle.told.specs.declared.tables.Told.{Told}
use Rattle.told.specs.declared.records.ToldHours.{ToldHours}
use Rattle.told.specs.Tables.{taking_told}
use Rattle.told.specs.Records.{writing_told, unpacking_told, opening_told, asking_told}
use Rattle.told.specs.Columns.{edges_told, stopped_told, finished_told, change_told}
use Rattle.sagivelume.proofs.Clauses.{tells-one}
use Rattle.theorems.specs.Refused.{RefusedTold, EachRefused, NothingWritten}

-- No refusal has the number 0.
pub none-zero : (why : Refusal) → ¬ (number_of why ≡ 0)
none-zero why e = grind arith

-- A call with these checks, its answers, and how the boundary tells them: a refusal by its number and its place, and
-- what is taken with the number 0.
module _ {A T : Type 0} (taken : Result A Refusal) (told : Result A Refusal → T) (saying : T → ℕ × ℕ)
    (refusing : (why : Refusal) → saying (told (Err why)) ≡ (number_of why, place_of why))
    (zero : (saying (told taken)).0 ≡ 0) (checks : List Check) (r : T) where
  abbrev number : T → ℕ
  number u = (saying u).0

  abbrev place : T → ℕ
  place u = (saying u).1

  pub tells-refusal : r ≡ told (answer_by Err (in_order checks) taken) → RefusedTold checks (number r) (place r)
  tells-refusal e = by (in_order checks) refl
    where
      by : (c : Check) → in_order checks ≡ c → RefusedTold checks (number r) (place r)
      by passes d =
          let none : number r ≡ 0 = ap number (rw d at e) ∙ zero in
          record {
            cause = λ other. absurd (other none);
            tells = λ why first.
                let z : ◌≡◌ {A = ℕ} 0 1 = cc (sym d ∙ (first-cause checks why).1 first) in omega arith;
          }
      by (refuses why) d =
          let n : number r ≡ number_of why = ap number (rw d at e) ∙ ap (λ (u : ℕ × ℕ). u.0) (refusing why) in
          let p : place r ≡ place_of why = ap place (rw d at e) ∙ ap (λ (u : ℕ × ℕ). u.1) (refusing why) in
          record {
            cause = λ other. (why, (first-cause checks why).0 d, n, p);
            tells = λ why' first.
                let same : why ≡ why' = cc (sym d ∙ (first-cause checks why').1 first) in
                (λ z. none-zero why (sym n ∙ z), n ∙ ap number_of same, p ∙ ap place_of same);
          }

  -- Of an answer that the checks decide, the number 0 is told exactly if it is taken.
  pub zero-taken : (a : Result A Refusal) → r ≡ told a → a ≡ answer_by Err (in_order checks) taken
      → (number r ≡ 0) ↔ (a ≡ taken)
  zero-taken a e d = by (in_order checks) refl
    where
      by : (c : Check) → in_order checks ≡ c → (number r ≡ 0) ↔ (a ≡ taken)
      by passes p = (λ z. rw p at d, λ z. ap number (e ∙ ap told z) ∙ zero)
      by (refuses why) p =
          let n : number r ≡ number_of why =
          ap number (e ∙ ap told (rw p at d)) ∙ ap (λ (u : ℕ × ℕ). u.0) (refusing why) in
          (λ z. absurd (none-zero why (sym n ∙ z)), λ z. ap number (e ∙ ap told z) ∙ zero)

-- The calls that tell nothing but that they are taken, and reading a record.
module _ (checks : List Check) where
  module _ (r : Told) where
    taking-refusal : r ≡ taking_told (checked_by (in_order checks)) → RefusedTold checks r.number r.place
    taking-refusal = tells-refusal (Ok tt) taking_told (λ u. (u.number, u.place)) (λ why. refl) refl checks r

    pub taking-zero : (a : Result Unit Refusal) → r ≡ taking_told a → a ≡ checked_by (in_order checks)
        → (r.number ≡ 0) ↔ (a ≡ Ok tt)
    taking-zero = zero-taken (Ok tt) taking_told (λ u. (u.number, u.place)) (λ why. refl) refl checks r

  module _ (hours : ℕ) (r : ToldHours) where
    pub unpacking-zero : (a : Result ℕ Refusal) → r ≡ unpacking_told a → a ≡ answer_by Err (in_order checks) (Ok hours)
        → (r.number ≡ 0) ↔ (a ≡ Ok hours)
    unpacking-zero = zero-taken (Ok hours) unpacking_told (λ u. (u.number, u.place)) (λ why. refl) refl checks r

-- A day that is taken tells number 0, with a reading or without.
change-zero : (earlier own : Option Summary) → (change_told (change_of earlier own)).number ≡ 0
change-zero earlier None = refl
change-zero None (Some own) = refl
change-zero (Some earlier) (Some own) = refl

pub each-refused : EachRefused
unfolding opening asking_view edges stopped finished day_change
each-refused =
    record {
      make = λ κs n readings coefficients codes r e m. taking-refusal _ r (tells-one m m.keeps.answer);
      turn-back = λ κs n coefficients codes hours r e m. taking-refusal _ r (tells-one m m.keeps.answer);
      rebuild = λ κs n counts flags start hours r e m. taking-refusal _ r (tells-one m m.keeps.answer);
      write-record = λ κs n coefficients codes bytes r e m.
          tells-refusal _ writing_told (λ u. (u.number, u.place)) (λ why. refl) refl _ r (tells-one m m.keeps.answer);
      read-record = λ κs bytes coefficients codes r e m.
          tells-refusal _ unpacking_told (λ u. (u.number, u.place)) (λ why. refl) refl _ r (tells-one m m.keeps.answer);
      open-record = λ κs bytes r e m.
          tells-refusal _ opening_told (λ u. (u.number, u.place)) (λ why. refl) refl _ r m;
      ask = λ κs bytes places place r e m.
          tells-refusal _ asking_told (λ u. (u.number, u.place)) (λ why. refl) refl _ r m;
      column-edges = λ κs n a b w k r e m.
          tells-refusal _ edges_told (λ u. (u.number, u.place)) (λ why. refl) refl _ r m;
      stopped-column = λ κs n coefficients codes a b w k d r e m.
          tells-refusal _ stopped_told (λ u. (u.number, u.place)) (λ why. refl) refl _ r m;
      finished-column = λ κs n coefficients codes a b w k r e m.
          tells-refusal _ finished_told (λ u. (u.number, u.place)) (λ why. refl) refl _ r m;
      day-change = λ κs n coefficients codes d r e m.
          tells-refusal _ change_told (λ u. (u.number, u.place)) (λ why. refl)
          (let t = lent coefficients.now codes.now in
          change-zero (answer (levels n) t (before d)) (answer (levels n) t (day n d))) _ r m;
    }

-- What is told with another number than 0 was refused by some check.
refused-by : (checks : List Check) (number place : ℕ) → RefusedTold checks number place → ¬ (number ≡ 0)
    → (why : Refusal) × (in_order checks ≡ refuses why)
refused-by checks number place told other =
    let c = told.cause other in
    (c.0, (first-cause checks c.0).1 c.1)

pub nothing_written : NothingWritten
nothing_written =
    record {
      make = λ κs n readings coefficients codes r e m other.
          let c = refused-by _ _ _ (each-refused.make κs n readings coefficients codes r e m) other in
          (rw c.1 at m.keeps.coefficients, rw c.1 at m.keeps.codes);
      turn-back = λ κs n coefficients codes hours r e m other.
          let c = refused-by _ _ _ (each-refused.turn-back κs n coefficients codes hours r e m) other in
          rw c.1 at m.keeps.hours;
      rebuild = λ κs n counts flags start hours r e m other.
          let c = refused-by _ _ _ (each-refused.rebuild κs n counts flags start hours r e m) other in
          rw c.1 at m.keeps.hours;
      write-record = λ κs n coefficients codes bytes r e m other.
          let c = refused-by _ _ _ (each-refused.write-record κs n coefficients codes bytes r e m) other in
          rw c.1 at m.keeps.bytes;
      read-record = λ κs bytes coefficients codes r e m other.
          let c = refused-by _ _ _ (each-refused.read-record κs bytes coefficients codes r e m) other in
          (rw c.1 at m.keeps.coefficients, rw c.1 at m.keeps.codes);
    }
