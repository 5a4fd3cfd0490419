-- What joining asks, which is nothing, and what it promises, of its contract as the kit reads it. Assumes nothing.
use Rattle.kit.proofs.{◌≡◌, refl, sym, ◌∙◌}
use Rattle.kit.specs.Calls.{Call}
use Rattle.om3.specs.Document.{joined}
use Rattle.answers.specs.contracts.join
use Rattle.answers.proofs.join as join_code

abbrev pub JoinCall : Type 2
JoinCall =
    Call join.ended (λ M 𝓤 𝓛. join.clauses 𝓛) join_code.Symbol.code join.Key.name
    (λ κs left right r e. r ≡ joined left right) (λ κs r e. r)

pub join-call : JoinCall
join-call = record { clauses = λ 𝓛 mem run. refl; meets = join_code.Met.met; one = λ κs a r r' e e' x y. x ∙ sym y }
