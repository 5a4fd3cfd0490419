-- What a struct says to whoever takes it, in document 01's numbers: the number, the place and, where the number
-- is 0, the values. A law holds it against what document 01 says of the answer that the struct tells. [forms 15]
-- Assumes nothing.
--
--   said number place vs     the values count where the number is 0
--   told_says, bytes_say, ..   what a struct of each type says; `values_in`, of the values of a column's answer
--   EachSays                 each says what document 01 says of its answer
use mathlib.Core.{Path.◌≡◌, Bool.cond}
use Rattle.std.specs.Prelude.{List, [], ◌∷◌, ◌++◌, ℕ, eqb, ℤ, pos, Option, Result}
use Rattle.words.specs.{said_of_taking, said_of_writing, said_of_unpacking, said_of_opening, said_of_asking}
use Rattle.words.specs.{said_of_edges, said_of_stopped, said_of_finished, said_of_day_change, values_of}
use Rattle.words.specs.Said.{Said}
use Rattle.words.specs.declared.{Refusal.Refusal, Opening.Opening, Column.Column, Stopped.Stopped, Summary.Summary}
use Rattle.words.specs.declared.{Finished.Finished}
use Rattle.told.specs.declared.{tables.Told.Told, records.ToldBytes.ToldBytes, records.ToldHours.ToldHours}
use Rattle.told.specs.declared.{records.ToldRecord.ToldRecord, records.ToldCoefficient.ToldCoefficient}
use Rattle.told.specs.declared.{columns.ToldColumn.ToldColumn, columns.ToldRanges.ToldRanges}
use Rattle.told.specs.declared.{columns.ToldAnswer.ToldAnswer, columns.ToldFinished.ToldFinished}
use Rattle.told.specs.declared.{columns.ToldChange.ToldChange}
use Rattle.told.specs.Tables.{taking_told}
use Rattle.told.specs.Records.{writing_told, unpacking_told, opening_told, asking_told}
use Rattle.told.specs.Columns.{edges_told, stopped_told, answer_told, finished_told, change_told}

-- The values count where the number is 0.
abbrev pub said : (number place : ℕ) → List ℤ → Said
said number place values = record { number = number; place = place; values = cond (eqb number 0) values [] }

abbrev pub told_says : Told → Said
told_says t = said t.number t.place []

abbrev pub bytes_say : ToldBytes → Said
bytes_say t = said t.number t.place (pos t.bytes ∷ [])

abbrev pub hours_say : ToldHours → Said
hours_say t = said t.number t.place (pos t.hours ∷ [])

abbrev pub record_says : ToldRecord → Said
record_says t = said t.number t.place (pos t.hours ∷ pos t.places ∷ [])

abbrev pub coefficient_says : ToldCoefficient → Said
coefficient_says t = said t.number t.place (t.coefficient ∷ [])

abbrev pub column_says : ToldColumn → Said
column_says t = said t.number t.place (pos t.from ∷ pos t.upto ∷ [])

abbrev pub ranges_say : ToldRanges → Said
ranges_say t =
    said t.number t.place
    (t.outer_low ∷ t.outer_high ∷ t.inner_low ∷ t.inner_high ∷ pos t.count ∷ [])

-- The values of a column's answer count where `found` is not 0.
abbrev pub values_in : ToldAnswer → List ℤ
values_in t =
    cond (eqb t.found 0) []
    (pos t.first_hour ∷ t.first ∷ pos t.last_hour ∷ t.last ∷ t.low ∷ t.high ∷ [])

abbrev pub finished_says : ToldFinished → Said
finished_says t = said t.number t.place (values_in t.answer ++ pos t.count ∷ [])

abbrev pub change_says : ToldChange → Said
change_says t = said t.number t.place (cond (eqb t.found 0) [] (t.grams ∷ []))

pub record EachSays : Type 0 where
  pub taking : (t : Result Unit Refusal) → told_says (taking_told t) ≡ said_of_taking t
  pub writing : (w : Result ℕ Refusal) → bytes_say (writing_told w) ≡ said_of_writing w
  pub unpacking : (u : Result ℕ Refusal) → hours_say (unpacking_told u) ≡ said_of_unpacking u
  pub opening : (o : Result Opening Refusal) → record_says (opening_told o) ≡ said_of_opening o
  pub asking : (a : Result ℤ Refusal) → coefficient_says (asking_told a) ≡ said_of_asking a
  pub edges : (e : Result Column Refusal) → column_says (edges_told e) ≡ said_of_edges e
  pub stopped : (s : Result Stopped Refusal) → ranges_say (stopped_told s) ≡ said_of_stopped s
  pub answer : (a : Option Summary) → values_in (answer_told a) ≡ values_of a
  pub finished : (f : Result Finished Refusal) → finished_says (finished_told f) ≡ said_of_finished f
  pub change : (c : Result (Option ℤ) Refusal) → change_says (change_told c) ≡ said_of_day_change c
