-- What the calls of columns tell at the boundary: their answers as structs of numbers, with the number and the place
-- that document 01 gives to each case (`said_of..`) [forms 15], and 0 in every value of a refusal. Cited by the
-- contracts of this crate and of the boundary. Assumes nothing.
--
--   edges_told e      the first hour and the end of a column
--   stopped_told s    the outer and the inner range, each as its low and its high, and the count
--   answer_told a     whether there is a reading, and first and last with their hours, low and high
--   finished_told f   a finished answer and its count
--   change_told c     whether the day has a reading, and the change in grams
--   answer_in t       the answer that a caller hands in
use Rattle.std.specs.Prelude.{cond, eqb, pos, ℤ, Option, None, Some, Result, Ok, Err}
use Rattle.words.specs.Said.{Said, said_of_edges, said_of_stopped, said_of_finished, said_of_day_change, low_of}
use Rattle.words.specs.Said.{high_of}
use Rattle.words.specs.declared.Refusal.{Refusal}
use Rattle.words.specs.declared.Column.{Column}
use Rattle.words.specs.declared.Stopped.{Stopped}
use Rattle.words.specs.declared.Summary.{Summary}
use Rattle.words.specs.declared.Finished.{Finished}
use Rattle.om3.specs.Series.{hour}
use Rattle.told.specs.declared.columns.ToldColumn.{ToldColumn}
use Rattle.told.specs.declared.columns.ToldRanges.{ToldRanges}
use Rattle.told.specs.declared.columns.ToldAnswer.{ToldAnswer}
use Rattle.told.specs.declared.columns.ToldFinished.{ToldFinished}
use Rattle.told.specs.declared.columns.ToldChange.{ToldChange}

-- A column's first hour and its end.
abbrev edges_said : Said → Result Column Refusal → ToldColumn
edges_said said (Ok x) = record { number = said.number; place = said.place; from = x.from.0; upto = x.upto.0 }
edges_said said (Err why) = record { number = said.number; place = said.place; from = 0; upto = 0 }

abbrev pub edges_told : Result Column Refusal → ToldColumn
edges_told e = edges_said (said_of_edges e) e

-- An absent range has the gap mark as its low and as its high.
abbrev stopped_said : Said → Result Stopped Refusal → ToldRanges
stopped_said said (Ok done) = record {
  number = said.number;
  place = said.place;
  outer_low = low_of done.outer;
  outer_high = high_of done.outer;
  inner_low = low_of done.inner;
  inner_high = high_of done.inner;
  count = done.count;
}
stopped_said said (Err why) = record {
  number = said.number;
  place = said.place;
  outer_low = pos 0;
  outer_high = pos 0;
  inner_low = pos 0;
  inner_high = pos 0;
  count = 0;
}

abbrev pub stopped_told : Result Stopped Refusal → ToldRanges
stopped_told s = stopped_said (said_of_stopped s) s

-- 1 in `found` if there is a reading; without one all else is 0.
abbrev pub answer_told : Option Summary → ToldAnswer
answer_told None = record {
  found = 0;
  first_hour = 0;
  last_hour = 0;
  first = pos 0;
  last = pos 0;
  low = pos 0;
  high = pos 0;
}
answer_told (Some s) = record {
  found = 1;
  first_hour = s.first.hour.0;
  last_hour = s.last.hour.0;
  first = s.first.grams;
  last = s.last.grams;
  low = s.low;
  high = s.high;
}

-- A refusal is told with the answer of no reading and with count 0.
abbrev finished_said : Said → Result Finished Refusal → ToldFinished
finished_said said (Ok done) =
    record { number = said.number; place = said.place; answer = answer_told done.answer; count = done.count }
finished_said said (Err why) = record { number = said.number; place = said.place; answer = answer_told None; count = 0 }

abbrev pub finished_told : Result Finished Refusal → ToldFinished
finished_told f = finished_said (said_of_finished f) f

-- 1 in `found` if the day has a reading; without one, or refused, the change is told as 0.
abbrev change_said : Said → Result (Option ℤ) Refusal → ToldChange
change_said said (Ok None) = record { number = said.number; place = said.place; found = 0; grams = pos 0 }
change_said said (Ok (Some grams)) = record { number = said.number; place = said.place; found = 1; grams = grams }
change_said said (Err why) = record { number = said.number; place = said.place; found = 0; grams = pos 0 }

abbrev pub change_told : Result (Option ℤ) Refusal → ToldChange
change_told c = change_said (said_of_day_change c) c

-- 0 in `found` is no reading, anything else a reading.
abbrev pub answer_in : ToldAnswer → Option Summary
answer_in t =
    cond (eqb t.found 0) None
    (Some (record {
      first = record { hour = hour t.first_hour; grams = t.first };
      last = record { hour = hour t.last_hour; grams = t.last };
      low = t.low;
      high = t.high;
    }))
