-- Document 01, "Columns": the edges of a window's columns. Assumes nothing.
--
--   ceil m w           m / w rounded up
--   edge a b w k       where column k of the window [a, b) in w columns begins; for k = w, where the window ends
--   column a b w k     column k of the window [a, b) drawn in w columns
--   in_column x h       whether hour h is in column x
--   column_hours x      the hours of a column, in order
--   no_hour x           whether a column has none
--   edges_checks        the checks of the call for column edges; edges n a b w k, what it answers
use Rattle.std.specs.Prelude.{Bool, ◌&&◌, List, [], ◌∷◌, ℕ, ◌+◌, ◌-◌, ◌*◌, ◌/◌, leb, ltb, Err, Ok, Result}
use Rattle.words.specs.declared.Refusal.{Refusal}
use Rattle.words.specs.declared.Timestamp.{Timestamp}
use Rattle.words.specs.declared.Column.{Column}
use Rattle.om3.specs.Series.{hour, hours_from}
use Rattle.om3.specs.Checks.{Check, in_order, answer_by}
use Rattle.om3.specs.Refusals.{check_hours, check_window, check_column}

-- m / w rounded up.
abbrev pub ceil : (m w : ℕ) → ℕ
ceil m w = (m + (w - 1)) / w

-- Of a window [a, b) of L = b − a hours: a + ceil(k·L / w). [columns 1, 2]
-- Deviation: document 003 uses a fractional step; this is document 004's cut. [columns 3, 4]
-- Deviation: document 004's Definition 2 has round(n/w) values a column, counted from 1; we cut as its Algorithm 1
-- does, by floor(w·t/n).
abbrev pub edge : (a b w k : ℕ) → Timestamp
edge a b w k = hour (a + ceil (k * (b - a)) w)

-- Column k holds hours from edge k up to, not including, edge k + 1. [columns 2]
abbrev pub column : (a b w k : ℕ) → Column
column a b w k = record { from = edge a b w k; upto = edge a b w (k + 1) }

abbrev pub in_column : Column → Timestamp → Bool
in_column x h = leb x.from.0 h.0 && ltb h.0 x.upto.0

abbrev pub column_hours : Column → List Timestamp
column_hours x = hours_from x.from.0 (x.upto.0 - x.from.0)

-- With w > L some columns have no hour. [columns 5]
abbrev pub no_hour : Column → Bool
no_hour x = leb x.upto.0 x.from.0

-- Column edges alone: 1, 5, 6. [refusals 20]
abbrev pub edges_checks : (n a b w k : ℕ) → List Check
edges_checks n a b w k = check_hours n ∷ check_window n a b ∷ check_column w k ∷ []

unfoldable pub edges : (n a b w k : ℕ) → Result Column Refusal
edges n a b w k = answer_by Err (in_order (edges_checks n a b w k)) (Ok (column a b w k))
