-- What writing a record asks, which is nothing, and what it promises, of its contract as the kit reads it. Assumes
-- nothing.
use Rattle.kit.proofs.{refl, sym, ◌∙◌, List, ℕ}
use Rattle.kit.proofs.{Result}
use Rattle.words.specs.declared.Refusal.{Refusal}
use Rattle.kit.specs.Calls.{Call, fourth}
use Rattle.writing.specs.Writing.{RecordWritten}
use Rattle.writing.specs.contracts.write_record
use Rattle.writing.proofs.write_record as write_record_code

abbrev pub WriteRecordCall : Type 2
WriteRecordCall =
    Call write_record.ended (λ M 𝓤 𝓛. write_record.clauses 𝓛) write_record_code.Symbol.code write_record.Key.name
    (λ κs n coefficients codes bytes r e. RecordWritten n coefficients.now codes.now bytes.now (fourth e).now r)
    {B = Result ℕ Refusal × List ℕ} (λ κs r e. (r, (fourth e).now))

pub write-record-call : WriteRecordCall
write-record-call =
    record {
      clauses = λ 𝓛 mem run. refl;
      meets = write_record_code.Met.met;
      one = λ κs a r r' e e' x y i. (
        (x.answer ∙ sym y.answer) i,
        (x.bytes ∙ sym y.bytes) i,
      );
    }
