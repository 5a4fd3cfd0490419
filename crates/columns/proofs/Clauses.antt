-- What the calls of a column ask, which is nothing, and what they promise, of their contracts as the kit reads them.
-- Assumes nothing.
use Rattle.kit.proofs.{◌≡◌, refl, sym, ◌∙◌}
use Rattle.kit.specs.Calls.{Call}
use Rattle.om3.specs.Document.{lent, stopped as stopped_of, finished as finished_of}
use Rattle.columns.specs.contracts.stopped
use Rattle.columns.proofs.stopped as stopped_code
use Rattle.columns.specs.contracts.finished
use Rattle.columns.proofs.finished as finished_code

abbrev pub StoppedCall : Type 2
StoppedCall =
    Call stopped.ended (λ M 𝓤 𝓛. stopped.clauses 𝓛) stopped_code.Symbol.code stopped.Key.name
    (λ κs n coefficients codes a b w k d r e. r ≡ stopped_of n (lent coefficients.now codes.now) a.0 b.0 w k d)
    (λ κs r e. r)

pub stopped_call : StoppedCall
stopped_call =
    record { clauses = λ 𝓛 mem run. refl; meets = stopped_code.Met.met; one = λ κs a r r' e e' x y. x ∙ sym y }

abbrev pub FinishedCall : Type 2
FinishedCall =
    Call finished.ended (λ M 𝓤 𝓛. finished.clauses 𝓛) finished_code.Symbol.code finished.Key.name
    (λ κs n coefficients codes a b w k r e. r ≡ finished_of n (lent coefficients.now codes.now) a.0 b.0 w k)
    (λ κs r e. r)

pub finished-call : FinishedCall
finished-call =
    record { clauses = λ 𝓛 mem run. refl; meets = finished_code.Met.met; one = λ κs a r r' e e' x y. x ∙ sym y }
