-- What finding the edges of a column asks, which is nothing, and what it promises, of its contract as the kit reads
-- it. Assumes nothing.
use Rattle.kit.proofs.{◌≡◌, refl, sym, ◌∙◌}
use Rattle.kit.specs.Calls.{Call}
use Rattle.om3.specs.Document.{edges as edges_of}
use Rattle.windows.specs.contracts.edges
use Rattle.windows.proofs.edges as edges_code

abbrev pub EdgesCall : Type 2
EdgesCall =
    Call edges.ended (λ M 𝓤 𝓛. edges.clauses 𝓛) edges_code.Symbol.code edges.Key.name
    (λ κs n a b w k r e. r ≡ edges_of n a.0 b.0 w k) (λ κs r e. r)

pub edges-call : EdgesCall
edges-call = record { clauses = λ 𝓛 mem run. refl; meets = edges_code.Met.met; one = λ κs a r r' e e' x y. x ∙ sym y }
