-- What reading a record asks, which is nothing, and what it promises, of its contract as the kit reads it. Assumes
-- nothing.
use Rattle.kit.proofs.{refl, sym, ◌∙◌, List, ℕ, ℤ}
use Rattle.kit.proofs.{Result}
use Rattle.words.specs.declared.Refusal.{Refusal}
use Rattle.kit.specs.Calls.{Call, second, third}
use Rattle.reading.specs.Reading.{RecordRead}
use Rattle.reading.specs.contracts.read_record
use Rattle.reading.proofs.read_record as read_record_code

abbrev pub ReadRecordCall : Type 2
ReadRecordCall =
    Call read_record.ended (λ M 𝓤 𝓛. read_record.clauses 𝓛) read_record_code.Symbol.code read_record.Key.name
    (λ κs bytes coefficients codes r e.
    RecordRead bytes.now coefficients.now codes.now (second e).now (third e).now r)
    {B = Result ℕ Refusal × List ℤ × List ℕ} (λ κs r e. (r, (second e).now, (third e).now))

pub read-record-call : ReadRecordCall
read-record-call =
    record {
      clauses = λ 𝓛 mem run. refl;
      meets = read_record_code.Met.met;
      one = λ κs a r r' e e' x y i. (
        (x.answer ∙ sym y.answer) i,
        (x.coefficients ∙ sym y.coefficients) i,
        (x.codes ∙ sym y.codes) i,
      );
    }
