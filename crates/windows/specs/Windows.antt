-- What drawing a window in columns promises beside the edges. Cited by the contracts of this crate and of what takes a
-- column of a window. Assumes nothing.
--
--   Edged a b w k   the numbers of an edge are small enough to compute with
--   window_check     checks 5 and 6, as one
use Rattle.std.specs.Prelude.{[], ◌∷◌, ℕ, ◌≤◌}
use Rattle.words.specs.Constants.{largest_hours, most_columns}
use Rattle.om3.specs.Checks.{Check, in_order}
use Rattle.om3.specs.Refusals.{check_window, check_column}

-- A window [a, b) of at most 16,384 hours in w columns, 1 ≤ w ≤ 4,096, and k at most w.
pub record Edged (a b w k : ℕ) : Type 0 where
  pub ordered : a ≤ b
  pub hours : b ≤ largest_hours
  pub some : 1 ≤ w
  pub most : w ≤ most_columns
  pub among : k ≤ w

-- Of the window and of its columns. [refusals 17]
abbrev pub window_check : (n a b w k : ℕ) → Check
window_check n a b w k = in_order (check_window n a b ∷ check_column w k ∷ [])
