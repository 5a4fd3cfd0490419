-- What turning back asks, which is nothing, and what it promises, of its contract as the kit reads it. Assumes
-- nothing.
use Rattle.kit.proofs.{refl, sym, ◌∙◌, List, ℤ, Result}
use Rattle.words.specs.declared.Refusal.{Refusal}
use Rattle.kit.specs.Calls.{Call, fourth}
use Rattle.turning.specs.Turning.{TurnedBack}
use Rattle.turning.specs.contracts.turn_back
use Rattle.turning.proofs.turn_back as turn_back_code

abbrev pub TurnBackCall : Type 2
TurnBackCall =
    Call turn_back.ended (λ M 𝓤 𝓛. turn_back.clauses 𝓛) turn_back_code.Symbol.code turn_back.Key.name
    (λ κs n coefficients codes hours r e. TurnedBack n coefficients.now codes.now hours.now (fourth e).now r)
    {B = Result Unit Refusal × List ℤ} (λ κs r e. (r, (fourth e).now))

pub turn-back-call : TurnBackCall
turn-back-call =
    record {
      clauses = λ 𝓛 mem run. refl;
      meets = turn_back_code.Met.met;
      one = λ κs a r r' e e' x y i. (
        (x.answer ∙ sym y.answer) i,
        (x.hours ∙ sym y.hours) i,
      );
    }
