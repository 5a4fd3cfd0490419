-- What opening a record and asking its bytes ask, which is nothing, and what they promise, of their contracts as the
-- kit reads them. Assumes nothing.
use Rattle.kit.proofs.{◌≡◌, refl, sym, ◌∙◌}
use Rattle.kit.specs.Calls.{Call}
use Rattle.om3.specs.Document.{opening, asking_view}
use Rattle.opening.specs.contracts.open_record
use Rattle.opening.proofs.open_record as open_record_code
use Rattle.opening.specs.contracts.ask
use Rattle.opening.proofs.ask as ask_code

abbrev pub OpenRecordCall : Type 2
OpenRecordCall =
    Call open_record.ended (λ M 𝓤 𝓛. open_record.clauses 𝓛) open_record_code.Symbol.code open_record.Key.name
    (λ κs bytes r e. r ≡ opening bytes.now) (λ κs r e. r)

pub open-record-call : OpenRecordCall
open-record-call =
    record { clauses = λ 𝓛 mem run. refl; meets = open_record_code.Met.met; one = λ κs a r r' e e' x y. x ∙ sym y }

abbrev pub AskCall : Type 2
AskCall =
    Call ask.ended (λ M 𝓤 𝓛. ask.clauses 𝓛) ask_code.Symbol.code ask.Key.name
    (λ κs bytes places place r e. r ≡ asking_view bytes.now places place) (λ κs r e. r)

pub ask-call : AskCall
ask-call = record { clauses = λ 𝓛 mem run. refl; meets = ask_code.Met.met; one = λ κs a r r' e e' x y. x ∙ sym y }
