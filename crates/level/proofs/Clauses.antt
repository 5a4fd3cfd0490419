-- What the calls of a level ask, which is nothing, and what they promise, of their contracts as the kit reads them.
-- Assumes nothing.
use Rattle.kit.proofs.{◌≡◌, refl, sym, ◌∙◌, length}
use Rattle.kit.specs.Calls.{Call}
use Rattle.om3.specs.Document.{level_stretch, places_of}
use Rattle.level.specs.contracts.stretch
use Rattle.level.proofs.stretch as stretch_code
use Rattle.level.specs.contracts.level
use Rattle.level.proofs.level as level_code

abbrev pub StretchCall : Type 2
StretchCall =
    Call stretch.ended (λ M 𝓤 𝓛. stretch.clauses 𝓛) stretch_code.Symbol.code stretch.Key.name
    (λ κs n j size r e. r ≡ level_stretch n j size) (λ κs r e. r)

pub stretch-call : StretchCall
stretch-call =
    record { clauses = λ 𝓛 mem run. refl; meets = stretch_code.Met.met; one = λ κs a r r' e e' x y. x ∙ sym y }

abbrev pub LevelCall : Type 2
LevelCall =
    Call level.ended (λ M 𝓤 𝓛. level.clauses 𝓛) level_code.Symbol.code level.Key.name
    (λ κs n j coefficients r e. r.now ≡ places_of (level_stretch n j (length coefficients.now)) coefficients.now)
    (λ κs r e. r.now)

pub level-call : LevelCall
level-call = record { clauses = λ 𝓛 mem run. refl; meets = level_code.Met.met; one = λ κs a r r' e e' x y. x ∙ sym y }
