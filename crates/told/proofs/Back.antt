-- An answer that is told and handed in again is the same answer: no field is read where another was told. Of the
-- structs only ToldAnswer is handed in. Assumes nothing.
use Rattle.kit.proofs.{◌≡◌, refl, Option, None, Some}
use Rattle.words.specs.declared.Summary.{Summary}
use Rattle.told.specs.Columns.{answer_told, answer_in}

pub answer_back : (a : Option Summary) → answer_in (answer_told a) ≡ a
answer_back None = refl
answer_back (Some s) = refl
