-- What the calls of the view ask, which is nothing, and what they promise, of their contracts as the kit reads them.
-- Assumes nothing.
use Rattle.kit.proofs.{◌≡◌, refl, sym, ◌∙◌}
use Rattle.kit.specs.Calls.{Call}
use Rattle.om3.specs.Document.{asking_view, asking}
use Rattle.view.specs.View.{view_of}
use Rattle.view.specs.contracts.open
use Rattle.view.proofs.open as open_code
use Rattle.view.specs.contracts.ask
use Rattle.view.proofs.ask as ask_code
use Rattle.view.specs.contracts.ask_record
use Rattle.view.proofs.ask_record as ask_record_code

abbrev pub OpenCall : Type 2
OpenCall =
    Call open.ended (λ M 𝓤 𝓛. open.clauses 𝓛) open_code.Symbol.code open.Key.name (λ κs bytes r e. r ≡ view_of bytes)
    (λ κs r e. r)

pub open-call : OpenCall
open-call = record { clauses = λ 𝓛 mem run. refl; meets = open_code.Met.met; one = λ κs a r r' e e' x y. x ∙ sym y }

abbrev pub AskCall : Type 2
AskCall =
    Call ask.ended (λ M 𝓤 𝓛. ask.clauses 𝓛) ask_code.Symbol.code ask.Key.name
    (λ κs view place r e. r ≡ asking_view view.bytes.now view.places place) (λ κs r e. r)

pub ask-call : AskCall
ask-call = record { clauses = λ 𝓛 mem run. refl; meets = ask_code.Met.met; one = λ κs a r r' e e' x y. x ∙ sym y }

abbrev pub AskRecordCall : Type 2
AskRecordCall =
    Call ask_record.ended (λ M 𝓤 𝓛. ask_record.clauses 𝓛) ask_record_code.Symbol.code ask_record.Key.name
    (λ κs bytes place r e. r ≡ asking bytes.now place) (λ κs r e. r)

pub ask-record-call : AskRecordCall
ask-record-call =
    record { clauses = λ 𝓛 mem run. refl; meets = ask_record_code.Met.met; one = λ κs a r r' e e' x y. x ∙ sym y }
