-- What the functions that C links ask, which is nothing, and what they promise: each what the call of sagivelume does
-- that it hands on to, of its own contract as the kit reads it. Assumes nothing.
use Rattle.kit.proofs.{refl, List, ℕ, ℤ}
use Rattle.kit.specs.Calls.{Call, second, third, fourth, fifth}
use Rattle.told.specs.declared.{tables.Told.Told, records.ToldBytes.ToldBytes, records.ToldHours.ToldHours}
use Rattle.sagivelume.proofs.Clauses as boundary
use Rattle.sagivelume_c.specs.contracts as linked
use Rattle.sagivelume_c.proofs as linked_code

abbrev pub PlacesCall : Type 2
PlacesCall =
    Call linked.sagivelume_places.ended (λ M 𝓤 𝓛. linked.sagivelume_places.clauses 𝓛)
    linked_code.sagivelume_places.Symbol.code linked.sagivelume_places.Key.name boundary.PlacesPromises (λ κs r e. r)

pub places-call : PlacesCall
places-call =
    record {
      clauses = λ 𝓛 mem run. refl;
      meets = linked_code.sagivelume_places.Met.met;
      one = boundary.places-call.one;
    }

abbrev pub RecordBytesCall : Type 2
RecordBytesCall =
    Call linked.sagivelume_record_bytes.ended (λ M 𝓤 𝓛. linked.sagivelume_record_bytes.clauses 𝓛)
    linked_code.sagivelume_record_bytes.Symbol.code linked.sagivelume_record_bytes.Key.name boundary.RecordBytesPromises
    (λ κs r e. r)

pub record-bytes-call : RecordBytesCall
record-bytes-call =
    record {
      clauses = λ 𝓛 mem run. refl;
      meets = linked_code.sagivelume_record_bytes.Met.met;
      one = boundary.record-bytes-call.one;
    }

abbrev pub MakeCall : Type 2
MakeCall =
    Call linked.sagivelume_make.ended (λ M 𝓤 𝓛. linked.sagivelume_make.clauses 𝓛)
    linked_code.sagivelume_make.Symbol.code linked.sagivelume_make.Key.name boundary.MakePromises
    {B = Told × List ℤ × List ℕ} (λ κs r e. (r, (third e).now, (fourth e).now))

pub make-call : MakeCall
make-call =
    record {
      clauses = λ 𝓛 mem run. refl;
      meets = linked_code.sagivelume_make.Met.met;
      one = boundary.make-call.one;
    }

abbrev pub TurnBackCall : Type 2
TurnBackCall =
    Call linked.sagivelume_turn_back.ended (λ M 𝓤 𝓛. linked.sagivelume_turn_back.clauses 𝓛)
    linked_code.sagivelume_turn_back.Symbol.code linked.sagivelume_turn_back.Key.name boundary.TurnBackPromises
    {B = Told × List ℤ} (λ κs r e. (r, (fourth e).now))

pub turn-back-call : TurnBackCall
turn-back-call =
    record {
      clauses = λ 𝓛 mem run. refl;
      meets = linked_code.sagivelume_turn_back.Met.met;
      one = boundary.turn-back-call.one;
    }

abbrev pub RebuildCall : Type 2
RebuildCall =
    Call linked.sagivelume_rebuild.ended (λ M 𝓤 𝓛. linked.sagivelume_rebuild.clauses 𝓛)
    linked_code.sagivelume_rebuild.Symbol.code linked.sagivelume_rebuild.Key.name boundary.RebuildPromises
    {B = Told × List ℤ} (λ κs r e. (r, (fifth e).now))

pub rebuild-call : RebuildCall
rebuild-call =
    record {
      clauses = λ 𝓛 mem run. refl;
      meets = linked_code.sagivelume_rebuild.Met.met;
      one = boundary.rebuild-call.one;
    }

abbrev pub LevelCall : Type 2
LevelCall =
    Call linked.sagivelume_level.ended (λ M 𝓤 𝓛. linked.sagivelume_level.clauses 𝓛)
    linked_code.sagivelume_level.Symbol.code linked.sagivelume_level.Key.name boundary.LevelPromises (λ κs r e. r)

pub level-call : LevelCall
level-call =
    record {
      clauses = λ 𝓛 mem run. refl;
      meets = linked_code.sagivelume_level.Met.met;
      one = boundary.level-call.one;
    }

abbrev pub WriteRecordCall : Type 2
WriteRecordCall =
    Call linked.sagivelume_write_record.ended (λ M 𝓤 𝓛. linked.sagivelume_write_record.clauses 𝓛)
    linked_code.sagivelume_write_record.Symbol.code linked.sagivelume_write_record.Key.name boundary.WriteRecordPromises
    {B = ToldBytes × List ℕ} (λ κs r e. (r, (fourth e).now))

pub write-record-call : WriteRecordCall
write-record-call =
    record {
      clauses = λ 𝓛 mem run. refl;
      meets = linked_code.sagivelume_write_record.Met.met;
      one = boundary.write-record-call.one;
    }

abbrev pub ReadRecordCall : Type 2
ReadRecordCall =
    Call linked.sagivelume_read_record.ended (λ M 𝓤 𝓛. linked.sagivelume_read_record.clauses 𝓛)
    linked_code.sagivelume_read_record.Symbol.code linked.sagivelume_read_record.Key.name boundary.ReadRecordPromises
    {B = ToldHours × List ℤ × List ℕ} (λ κs r e. (r, (second e).now, (third e).now))

pub read-record-call : ReadRecordCall
read-record-call =
    record {
      clauses = λ 𝓛 mem run. refl;
      meets = linked_code.sagivelume_read_record.Met.met;
      one = boundary.read-record-call.one;
    }

abbrev pub OpenRecordCall : Type 2
OpenRecordCall =
    Call linked.sagivelume_open_record.ended (λ M 𝓤 𝓛. linked.sagivelume_open_record.clauses 𝓛)
    linked_code.sagivelume_open_record.Symbol.code linked.sagivelume_open_record.Key.name boundary.OpenRecordPromises
    (λ κs r e. r)

pub open-record-call : OpenRecordCall
open-record-call =
    record {
      clauses = λ 𝓛 mem run. refl;
      meets = linked_code.sagivelume_open_record.Met.met;
      one = boundary.open-record-call.one;
    }

abbrev pub AskCall : Type 2
AskCall =
    Call linked.sagivelume_ask.ended (λ M 𝓤 𝓛. linked.sagivelume_ask.clauses 𝓛)
    linked_code.sagivelume_ask.Symbol.code linked.sagivelume_ask.Key.name boundary.AskPromises (λ κs r e. r)

pub ask-call : AskCall
ask-call =
    record {
      clauses = λ 𝓛 mem run. refl;
      meets = linked_code.sagivelume_ask.Met.met;
      one = boundary.ask-call.one;
    }

abbrev pub EdgesCall : Type 2
EdgesCall =
    Call linked.sagivelume_edges.ended (λ M 𝓤 𝓛. linked.sagivelume_edges.clauses 𝓛)
    linked_code.sagivelume_edges.Symbol.code linked.sagivelume_edges.Key.name boundary.EdgesPromises (λ κs r e. r)

pub edges-call : EdgesCall
edges-call =
    record {
      clauses = λ 𝓛 mem run. refl;
      meets = linked_code.sagivelume_edges.Met.met;
      one = boundary.edges-call.one;
    }

abbrev pub StoppedCall : Type 2
StoppedCall =
    Call linked.sagivelume_stopped.ended (λ M 𝓤 𝓛. linked.sagivelume_stopped.clauses 𝓛)
    linked_code.sagivelume_stopped.Symbol.code linked.sagivelume_stopped.Key.name boundary.StoppedPromises (λ κs r e. r)

pub stopped_call : StoppedCall
stopped_call =
    record {
      clauses = λ 𝓛 mem run. refl;
      meets = linked_code.sagivelume_stopped.Met.met;
      one = boundary.stopped_call.one;
    }

abbrev pub FinishedCall : Type 2
FinishedCall =
    Call linked.sagivelume_finished.ended (λ M 𝓤 𝓛. linked.sagivelume_finished.clauses 𝓛)
    linked_code.sagivelume_finished.Symbol.code linked.sagivelume_finished.Key.name boundary.FinishedPromises
    (λ κs r e. r)

pub finished-call : FinishedCall
finished-call =
    record {
      clauses = λ 𝓛 mem run. refl;
      meets = linked_code.sagivelume_finished.Met.met;
      one = boundary.finished-call.one;
    }

abbrev pub JoinCall : Type 2
JoinCall =
    Call linked.sagivelume_join.ended (λ M 𝓤 𝓛. linked.sagivelume_join.clauses 𝓛)
    linked_code.sagivelume_join.Symbol.code linked.sagivelume_join.Key.name boundary.JoinPromises (λ κs r e. r)

pub join-call : JoinCall
join-call =
    record {
      clauses = λ 𝓛 mem run. refl;
      meets = linked_code.sagivelume_join.Met.met;
      one = boundary.join-call.one;
    }

abbrev pub DayChangeCall : Type 2
DayChangeCall =
    Call linked.sagivelume_day_change.ended (λ M 𝓤 𝓛. linked.sagivelume_day_change.clauses 𝓛)
    linked_code.sagivelume_day_change.Symbol.code linked.sagivelume_day_change.Key.name boundary.DayChangePromises
    (λ κs r e. r)

pub day-change-call : DayChangeCall
day-change-call =
    record {
      clauses = λ 𝓛 mem run. refl;
      meets = linked_code.sagivelume_day_change.Met.met;
      one = boundary.day-change-call.one;
    }
