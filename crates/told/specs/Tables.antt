-- What making a table and turning it back tell at the boundary. Cited by the contracts of this crate and of the
-- boundary. Assumes nothing.
--
--   taking_told t   the number and the place of an answer, 0 at 0 where the call is taken
--   told_of answer  the same of any call's answer: what each struct begins with
use Rattle.std.specs.Prelude.{Result, Ok, Err}
use Rattle.words.specs.Said.{number_of, place_of, said_of_taking}
use Rattle.words.specs.declared.Refusal.{Refusal}
use Rattle.told.specs.declared.tables.Told.{Told}

abbrev pub taking_told : Result Unit Refusal → Told
taking_told t = record { number = (said_of_taking t).number; place = (said_of_taking t).place }

abbrev pub told_of : {T : Type 0} → Result T Refusal → Told
told_of (Ok x) = record { number = 0; place = 0 }
told_of (Err why) = record { number = number_of why; place = place_of why }
