-- What the calls of the boundary ask, which is nothing, and what they promise, of their contracts as the kit reads
-- them. Assumes nothing.
use Rattle.kit.proofs.{◌≡◌, refl, sym, ap, ◌∙◌, List, length, ℕ, ℤ}
use Rattle.kit.specs.Calls.{Promise, Call, second, third, fourth, fifth}
use Rattle.om3.specs.Document.{lent, level_stretch, opening, asking_view, edges as edges_of, stopped as stopped_of}
use Rattle.om3.specs.Document.{finished as finished_of, joined, day_change}
use Rattle.sizes.specs.Needed.{places_needed, bytes_needed}
use Rattle.making.specs.Making.{Made}
use Rattle.turning.specs.Turning.{TurnedBack}
use Rattle.old_log.specs.Rebuilding.{Rebuilt}
use Rattle.writing.specs.Writing.{RecordWritten}
use Rattle.reading.specs.Reading.{RecordRead}
use Rattle.told.specs.declared.{tables.Told.Told, records.ToldBytes.ToldBytes, records.ToldHours.ToldHours}
use Rattle.told.specs.Tables.{taking_told}
use Rattle.told.specs.Records.{writing_told, unpacking_told, opening_told, asking_told}
use Rattle.told.specs.Columns.{edges_told, stopped_told, answer_told, answer_in, finished_told, change_told}
use Rattle.sagivelume.specs.Boundary.{Tells}
use Rattle.sagivelume.specs.contracts as boundary
use Rattle.sagivelume.proofs as boundary_code

-- What tells an answer that can only be x tells x.
pub tells-one : {A T : Type 0} {promised : A → Type 0} {told : A → T} {r : T} {x : A} (t : Tells promised told r)
    → t.answer ≡ x → r ≡ told x
tells-one {told = told} t e = t.tells ∙ ap told e

abbrev pub PlacesPromises : Promise boundary.sagivelume_places.ended
PlacesPromises κs n r e = r ≡ places_needed n

abbrev pub PlacesCall : Type 2
PlacesCall =
    Call boundary.sagivelume_places.ended (λ M 𝓤 𝓛. boundary.sagivelume_places.clauses 𝓛)
    boundary_code.sagivelume_places.Symbol.code boundary.sagivelume_places.Key.name PlacesPromises (λ κs r e. r)

pub places-call : PlacesCall
places-call =
    record {
      clauses = λ 𝓛 mem run. refl;
      meets = boundary_code.sagivelume_places.Met.met;
      one = λ κs a r r' e e' x y. x ∙ sym y;
    }

abbrev pub RecordBytesPromises : Promise boundary.sagivelume_record_bytes.ended
RecordBytesPromises κs n r e = r ≡ bytes_needed n

abbrev pub RecordBytesCall : Type 2
RecordBytesCall =
    Call boundary.sagivelume_record_bytes.ended (λ M 𝓤 𝓛. boundary.sagivelume_record_bytes.clauses 𝓛)
    boundary_code.sagivelume_record_bytes.Symbol.code boundary.sagivelume_record_bytes.Key.name RecordBytesPromises
    (λ κs r e. r)

pub record-bytes-call : RecordBytesCall
record-bytes-call =
    record {
      clauses = λ 𝓛 mem run. refl;
      meets = boundary_code.sagivelume_record_bytes.Met.met;
      one = λ κs a r r' e e' x y. x ∙ sym y;
    }

abbrev pub MakePromises : Promise boundary.sagivelume_make.ended
MakePromises κs n readings coefficients codes r e =
    Tells (Made n readings.now coefficients.now codes.now (third e).now (fourth e).now) taking_told r

abbrev pub MakeCall : Type 2
MakeCall =
    Call boundary.sagivelume_make.ended (λ M 𝓤 𝓛. boundary.sagivelume_make.clauses 𝓛)
    boundary_code.sagivelume_make.Symbol.code boundary.sagivelume_make.Key.name MakePromises
    {B = Told × List ℤ × List ℕ} (λ κs r e. (r, (third e).now, (fourth e).now))

pub make-call : MakeCall
make-call =
    record {
      clauses = λ 𝓛 mem run. refl;
      meets = boundary_code.sagivelume_make.Met.met;
      one = λ κs a r r' e e' x y i. (
        (tells-one x x.keeps.answer ∙ sym (tells-one y y.keeps.answer)) i,
        (x.keeps.coefficients ∙ sym y.keeps.coefficients) i,
        (x.keeps.codes ∙ sym y.keeps.codes) i,
      );
    }

abbrev pub TurnBackPromises : Promise boundary.sagivelume_turn_back.ended
TurnBackPromises κs n coefficients codes hours r e =
    Tells (TurnedBack n coefficients.now codes.now hours.now (fourth e).now) taking_told r

abbrev pub TurnBackCall : Type 2
TurnBackCall =
    Call boundary.sagivelume_turn_back.ended (λ M 𝓤 𝓛. boundary.sagivelume_turn_back.clauses 𝓛)
    boundary_code.sagivelume_turn_back.Symbol.code boundary.sagivelume_turn_back.Key.name TurnBackPromises
    {B = Told × List ℤ} (λ κs r e. (r, (fourth e).now))

pub turn-back-call : TurnBackCall
turn-back-call =
    record {
      clauses = λ 𝓛 mem run. refl;
      meets = boundary_code.sagivelume_turn_back.Met.met;
      one = λ κs a r r' e e' x y i. (
        (tells-one x x.keeps.answer ∙ sym (tells-one y y.keeps.answer)) i,
        (x.keeps.hours ∙ sym y.keeps.hours) i,
      );
    }

abbrev pub RebuildPromises : Promise boundary.sagivelume_rebuild.ended
RebuildPromises κs n counts flags start hours r e =
    Tells (Rebuilt n counts.now flags.now start hours.now (fifth e).now) taking_told r

abbrev pub RebuildCall : Type 2
RebuildCall =
    Call boundary.sagivelume_rebuild.ended (λ M 𝓤 𝓛. boundary.sagivelume_rebuild.clauses 𝓛)
    boundary_code.sagivelume_rebuild.Symbol.code boundary.sagivelume_rebuild.Key.name RebuildPromises
    {B = Told × List ℤ} (λ κs r e. (r, (fifth e).now))

pub rebuild-call : RebuildCall
rebuild-call =
    record {
      clauses = λ 𝓛 mem run. refl;
      meets = boundary_code.sagivelume_rebuild.Met.met;
      one = λ κs a r r' e e' x y i. (
        (tells-one x x.keeps.answer ∙ sym (tells-one y y.keeps.answer)) i,
        (x.keeps.hours ∙ sym y.keeps.hours) i,
      );
    }

abbrev pub LevelPromises : Promise boundary.sagivelume_level.ended
LevelPromises κs n j coefficients r e = r ≡ level_stretch n j (length coefficients.now)

abbrev pub LevelCall : Type 2
LevelCall =
    Call boundary.sagivelume_level.ended (λ M 𝓤 𝓛. boundary.sagivelume_level.clauses 𝓛)
    boundary_code.sagivelume_level.Symbol.code boundary.sagivelume_level.Key.name LevelPromises (λ κs r e. r)

pub level-call : LevelCall
level-call =
    record {
      clauses = λ 𝓛 mem run. refl;
      meets = boundary_code.sagivelume_level.Met.met;
      one = λ κs a r r' e e' x y. x ∙ sym y;
    }

abbrev pub WriteRecordPromises : Promise boundary.sagivelume_write_record.ended
WriteRecordPromises κs n coefficients codes bytes r e =
    Tells (RecordWritten n coefficients.now codes.now bytes.now (fourth e).now) writing_told r

abbrev pub WriteRecordCall : Type 2
WriteRecordCall =
    Call boundary.sagivelume_write_record.ended (λ M 𝓤 𝓛. boundary.sagivelume_write_record.clauses 𝓛)
    boundary_code.sagivelume_write_record.Symbol.code boundary.sagivelume_write_record.Key.name WriteRecordPromises
    {B = ToldBytes × List ℕ} (λ κs r e. (r, (fourth e).now))

pub write-record-call : WriteRecordCall
write-record-call =
    record {
      clauses = λ 𝓛 mem run. refl;
      meets = boundary_code.sagivelume_write_record.Met.met;
      one = λ κs a r r' e e' x y i. (
        (tells-one x x.keeps.answer ∙ sym (tells-one y y.keeps.answer)) i,
        (x.keeps.bytes ∙ sym y.keeps.bytes) i,
      );
    }

abbrev pub ReadRecordPromises : Promise boundary.sagivelume_read_record.ended
ReadRecordPromises κs bytes coefficients codes r e =
    Tells (RecordRead bytes.now coefficients.now codes.now (second e).now (third e).now) unpacking_told r

abbrev pub ReadRecordCall : Type 2
ReadRecordCall =
    Call boundary.sagivelume_read_record.ended (λ M 𝓤 𝓛. boundary.sagivelume_read_record.clauses 𝓛)
    boundary_code.sagivelume_read_record.Symbol.code boundary.sagivelume_read_record.Key.name ReadRecordPromises
    {B = ToldHours × List ℤ × List ℕ} (λ κs r e. (r, (second e).now, (third e).now))

pub read-record-call : ReadRecordCall
read-record-call =
    record {
      clauses = λ 𝓛 mem run. refl;
      meets = boundary_code.sagivelume_read_record.Met.met;
      one = λ κs a r r' e e' x y i. (
        (tells-one x x.keeps.answer ∙ sym (tells-one y y.keeps.answer)) i,
        (x.keeps.coefficients ∙ sym y.keeps.coefficients) i,
        (x.keeps.codes ∙ sym y.keeps.codes) i,
      );
    }

abbrev pub OpenRecordPromises : Promise boundary.sagivelume_open_record.ended
OpenRecordPromises κs bytes r e = r ≡ opening_told (opening bytes.now)

abbrev pub OpenRecordCall : Type 2
OpenRecordCall =
    Call boundary.sagivelume_open_record.ended (λ M 𝓤 𝓛. boundary.sagivelume_open_record.clauses 𝓛)
    boundary_code.sagivelume_open_record.Symbol.code boundary.sagivelume_open_record.Key.name OpenRecordPromises
    (λ κs r e. r)

pub open-record-call : OpenRecordCall
open-record-call =
    record {
      clauses = λ 𝓛 mem run. refl;
      meets = boundary_code.sagivelume_open_record.Met.met;
      one = λ κs a r r' e e' x y. x ∙ sym y;
    }

abbrev pub AskPromises : Promise boundary.sagivelume_ask.ended
AskPromises κs bytes places place r e = r ≡ asking_told (asking_view bytes.now places place)

abbrev pub AskCall : Type 2
AskCall =
    Call boundary.sagivelume_ask.ended (λ M 𝓤 𝓛. boundary.sagivelume_ask.clauses 𝓛)
    boundary_code.sagivelume_ask.Symbol.code boundary.sagivelume_ask.Key.name AskPromises (λ κs r e. r)

pub ask-call : AskCall
ask-call =
    record {
      clauses = λ 𝓛 mem run. refl;
      meets = boundary_code.sagivelume_ask.Met.met;
      one = λ κs a r r' e e' x y. x ∙ sym y;
    }

abbrev pub EdgesPromises : Promise boundary.sagivelume_edges.ended
EdgesPromises κs n a b w k r e = r ≡ edges_told (edges_of n a b w k)

abbrev pub EdgesCall : Type 2
EdgesCall =
    Call boundary.sagivelume_edges.ended (λ M 𝓤 𝓛. boundary.sagivelume_edges.clauses 𝓛)
    boundary_code.sagivelume_edges.Symbol.code boundary.sagivelume_edges.Key.name EdgesPromises (λ κs r e. r)

pub edges-call : EdgesCall
edges-call =
    record {
      clauses = λ 𝓛 mem run. refl;
      meets = boundary_code.sagivelume_edges.Met.met;
      one = λ κs a r r' e e' x y. x ∙ sym y;
    }

abbrev pub StoppedPromises : Promise boundary.sagivelume_stopped.ended
StoppedPromises κs n coefficients codes a b w k depth r e =
    r ≡ stopped_told (stopped_of n (lent coefficients.now codes.now) a b w k depth)

abbrev pub StoppedCall : Type 2
StoppedCall =
    Call boundary.sagivelume_stopped.ended (λ M 𝓤 𝓛. boundary.sagivelume_stopped.clauses 𝓛)
    boundary_code.sagivelume_stopped.Symbol.code boundary.sagivelume_stopped.Key.name StoppedPromises (λ κs r e. r)

pub stopped_call : StoppedCall
stopped_call =
    record {
      clauses = λ 𝓛 mem run. refl;
      meets = boundary_code.sagivelume_stopped.Met.met;
      one = λ κs a r r' e e' x y. x ∙ sym y;
    }

abbrev pub FinishedPromises : Promise boundary.sagivelume_finished.ended
FinishedPromises κs n coefficients codes a b w k r e =
    r ≡ finished_told (finished_of n (lent coefficients.now codes.now) a b w k)

abbrev pub FinishedCall : Type 2
FinishedCall =
    Call boundary.sagivelume_finished.ended (λ M 𝓤 𝓛. boundary.sagivelume_finished.clauses 𝓛)
    boundary_code.sagivelume_finished.Symbol.code boundary.sagivelume_finished.Key.name FinishedPromises (λ κs r e. r)

pub finished-call : FinishedCall
finished-call =
    record {
      clauses = λ 𝓛 mem run. refl;
      meets = boundary_code.sagivelume_finished.Met.met;
      one = λ κs a r r' e e' x y. x ∙ sym y;
    }

abbrev pub JoinPromises : Promise boundary.sagivelume_join.ended
JoinPromises κs left right r e = r ≡ answer_told (joined (answer_in left) (answer_in right))

abbrev pub JoinCall : Type 2
JoinCall =
    Call boundary.sagivelume_join.ended (λ M 𝓤 𝓛. boundary.sagivelume_join.clauses 𝓛)
    boundary_code.sagivelume_join.Symbol.code boundary.sagivelume_join.Key.name JoinPromises (λ κs r e. r)

pub join-call : JoinCall
join-call =
    record {
      clauses = λ 𝓛 mem run. refl;
      meets = boundary_code.sagivelume_join.Met.met;
      one = λ κs a r r' e e' x y. x ∙ sym y;
    }

abbrev pub DayChangePromises : Promise boundary.sagivelume_day_change.ended
DayChangePromises κs n coefficients codes day r e =
    r ≡ change_told (day_change n (lent coefficients.now codes.now) day)

abbrev pub DayChangeCall : Type 2
DayChangeCall =
    Call boundary.sagivelume_day_change.ended (λ M 𝓤 𝓛. boundary.sagivelume_day_change.clauses 𝓛)
    boundary_code.sagivelume_day_change.Symbol.code boundary.sagivelume_day_change.Key.name DayChangePromises
    (λ κs r e. r)

pub day-change-call : DayChangeCall
day-change-call =
    record {
      clauses = λ 𝓛 mem run. refl;
      meets = boundary_code.sagivelume_day_change.Met.met;
      one = λ κs a r r' e e' x y. x ∙ sym y;
    }
