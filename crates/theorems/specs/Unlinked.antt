-- Demand 1 for what is refused and is no call of the boundary: asking a record of its bytes alone, as a view does, and
-- the printer. What each answers, by its contract a definition of om3, is a refusal exactly by the first cause of its
-- order. What a check asks, and of which number it is, is in om3/specs: Refusals, RecordCalls and Printed. [refusals
-- 19, 20] Assumes nothing.
use mathlib.Core.{Path.◌≡◌, Logic.◌↔◌}
use Rattle.std.specs.Prelude.{List, [], ◌∷◌, ℕ, length, Err}
use Rattle.words.specs.Said.{window_as}
use Rattle.words.specs.declared.{Refusal.Refusal, HourLine.HourLine}
use Rattle.om3.specs.Document.{P, FirstCause, check_hours, check_window, check_column, hours_in, check_header}
use Rattle.om3.specs.Document.{check_version, check_length, check_cut, check_after, check_place, check_lines}
use Rattle.om3.specs.Document.{check_numbers, asking, refusal_line, printed_of}

pub record UnlinkedCause : Type 0 where
  -- the checks of opening, 13
  pub ask-record : (r : List ℕ) (p : ℕ) (why : Refusal) → (asking r p ≡ Err why)
      ↔ FirstCause
      (check_header r
      ∷ check_version r
      ∷ check_hours (hours_in r)
      ∷ check_length r
      ∷ check_cut r
      ∷ check_after r
      ∷ check_place (P (hours_in r)) p
      ∷ []) why
  -- 12, 1, 2, 5, 6, with a good line 1 and the further lines as they are read
  pub print : (a b w : ℕ) (lines : List HourLine) (why : Refusal)
      → (printed_of (window_as a b w) lines ≡ refusal_line why)
      ↔ FirstCause
      (check_lines 2 lines
      ∷ check_hours (length lines)
      ∷ check_numbers 0 lines
      ∷ check_window (length lines) a b
      ∷ check_column w 0
      ∷ []) why
