-- What the change of a day asks, which is nothing, and what it promises, of its contract as the kit reads it.
-- Assumes nothing.
use Rattle.kit.proofs.{◌≡◌, refl, sym, ◌∙◌}
use Rattle.kit.specs.Calls.{Call}
use Rattle.om3.specs.Document.{lent, day_change}
use Rattle.days.specs.contracts.day_change
use Rattle.days.proofs.day_change as day_change_code

abbrev pub DayChangeCall : Type 2
DayChangeCall =
    Call day_change.ended (λ M 𝓤 𝓛. day_change.clauses 𝓛) day_change_code.Symbol.code day_change.Key.name
    (λ κs n coefficients codes d r e. r ≡ day_change n (lent coefficients.now codes.now) d) (λ κs r e. r)

pub day-change-call : DayChangeCall
day-change-call =
    record { clauses = λ 𝓛 mem run. refl; meets = day_change_code.Met.met; one = λ κs a r r' e e' x y. x ∙ sym y }
