-- Rebuilding the series of an old log, as the boundary tells it. Assumes nothing.
use Rattle.kit.proofs.{◌≡◌, sym, ◌∙◌, false, ◌||◌, List, ◌↔◌, ℕ, ℤ, length, take, Ok}
use Rattle.words.specs.declared.{Timestamp.Timestamp}
use Rattle.om3.specs.Document.{Series, bad_hours, short, filled, rebuilt_series, rebuilding_checks, TrueLog}
use Rattle.om3.specs.Document.{true_series, held_at, hour, in_order, rebuilt, recorded_hours}
use Rattle.laws.proofs.{Filled.filled-first, Lists.map-up-length, Taken.taken-passes, OldLogs.rebuilt-series}
use Rattle.laws.proofs.TrueLogs.{true-passes, true-series}
use Rattle.old_log.specs.Rebuilding.{Rebuilt}
use Rattle.told.specs.{declared.tables.Told.Told, Tables.taking_told}
use Rattle.sagivelume.specs.Boundary.{Tells}
use Rattle.theorems.proofs.Refused.{taking-zero}

module _ (n : ℕ) (counts flags : List ℕ) (start : ℤ) (out out' : List ℤ) (r : Told)
    (done : Tells (Rebuilt n counts flags start out out') taking_told r) where
  told-zero : (r.number ≡ 0) ↔ (done.answer ≡ Ok tt)
  told-zero =
      taking-zero (rebuilding_checks n counts flags start (length out)) r done.answer done.tells
      done.keeps.answer

  -- A log of true weights.
  pub true-told : (weight : Timestamp → ℤ) → TrueLog n counts flags start weight → bad_hours n ≡ false
      → (short (length counts) n || (short (length flags) n || short (length out) n)) ≡ false
      → (r.number ≡ 0) × (out' ≡ filled (true_series n flags weight) out)
  true-told weight log good room =
      let pass = true-passes n counts flags start weight log (length out) good room in (
        told-zero.1 (rw pass at done.keeps.answer),
        rw (true-series n counts flags start weight log) at (rw pass at done.keeps.hours),
      )

  -- What is rebuilt is a series.
  pub series-told : r.number ≡ 0 → Series n (take n out')
  series-told zero =
      let checks = in_order (rebuilding_checks n counts flags start (length out)) in
      let pass = taken-passes checks (sym (told-zero.0 zero) ∙ done.keeps.answer) in
      let wrote : out' ≡ filled (rebuilt_series n counts flags start) out = rw pass at done.keeps.hours in
      let size = map-up-length (λ h. held_at (rebuilt counts start (recorded_hours n flags)) (hour h)) 0 n in
      rw (wrote, filled-first (rebuilt_series n counts flags start) out n size)
      (rebuilt-series n counts flags start (length out) pass)
