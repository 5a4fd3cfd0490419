-- What a view of a record holds. Cited by the contracts of this crate. Assumes nothing.
--
--   view_places r    how many coefficients the view of the bytes r has: P of a record that opening takes, else 0
--   view_of bytes    the view of these bytes
--   viewing bytes    what opening them as a view answers: their view, or why opening refuses
use Rattle.std.specs.Prelude.{List, ℕ, Result, Ok, Err}
use Rattle.std.specs.Borrow.{Bor}
use Rattle.words.specs.declared.Refusal.{Refusal}
use Rattle.om3.specs.Series.{P}
use Rattle.om3.specs.Checks.{in_order, answer_by}
use Rattle.om3.specs.Record.{hours_in}
use Rattle.om3.specs.RecordCalls.{opening_checks}
use Rattle.view.specs.declared.View.{View}

-- P of a record that opening takes. Other bytes have no place to be asked for. [level 3]
unfoldable pub view_places : List ℕ → ℕ
view_places r = answer_by (λ why. 0) (in_order (opening_checks r)) (P (hours_in r))

-- The bytes themselves, and P. [level 3]
abbrev pub view_of : Bor (List ℕ) → View
view_of bytes = record { bytes = bytes; places = view_places bytes.now }

-- The view of a record that opening takes, else its refusal. [level 3]
abbrev pub viewing : Bor (List ℕ) → Result View Refusal
viewing bytes = answer_by Err (in_order (opening_checks bytes.now)) (Ok (view_of bytes))
