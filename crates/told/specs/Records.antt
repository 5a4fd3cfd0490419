-- What the calls of the house record tell at the boundary. Cited by the contracts of this crate and of the boundary.
-- Assumes nothing.
--
--   bytes_told w, hours_told u,         the values of the answers, 0 on a refusal
--   opening_hours o, opening_places o,
--   coefficient_told a
--   writing_told w, unpacking_told u,   these answers with their number, place and values
--   opening_told o, asking_told a
use Rattle.std.specs.Prelude.{ℕ, ℤ, pos, Result, Ok, Err}
use Rattle.words.specs.Said.{said_of_writing, said_of_unpacking, said_of_opening, said_of_asking}
use Rattle.words.specs.declared.Refusal.{Refusal}
use Rattle.words.specs.declared.Opening.{Opening}
use Rattle.told.specs.declared.records.ToldBytes.{ToldBytes}
use Rattle.told.specs.declared.records.ToldHours.{ToldHours}
use Rattle.told.specs.declared.records.ToldRecord.{ToldRecord}
use Rattle.told.specs.declared.records.ToldCoefficient.{ToldCoefficient}

-- The values of an answer as fields, 0 where the call is refused.
abbrev pub bytes_told : Result ℕ Refusal → ℕ
bytes_told (Ok b) = b
bytes_told (Err why) = 0

abbrev pub hours_told : Result ℕ Refusal → ℕ
hours_told (Ok n) = n
hours_told (Err why) = 0

abbrev pub opening_hours : Result Opening Refusal → ℕ
opening_hours (Ok opened) = opened.hours
opening_hours (Err why) = 0

abbrev pub opening_places : Result Opening Refusal → ℕ
opening_places (Ok opened) = opened.places
opening_places (Err why) = 0

abbrev pub coefficient_told : Result ℤ Refusal → ℤ
coefficient_told (Ok z) = z
coefficient_told (Err why) = pos 0

abbrev pub writing_told : Result ℕ Refusal → ToldBytes
writing_told w = record { number = (said_of_writing w).number; place = (said_of_writing w).place; bytes = bytes_told w }

abbrev pub unpacking_told : Result ℕ Refusal → ToldHours
unpacking_told u =
    record { number = (said_of_unpacking u).number; place = (said_of_unpacking u).place; hours = hours_told u }

abbrev pub opening_told : Result Opening Refusal → ToldRecord
opening_told o = record {
  number = (said_of_opening o).number;
  place = (said_of_opening o).place;
  hours = opening_hours o;
  places = opening_places o;
}

abbrev pub asking_told : Result ℤ Refusal → ToldCoefficient
asking_told a = record {
  number = (said_of_asking a).number;
  place = (said_of_asking a).place;
  coefficient = coefficient_told a;
}
