-- How much a caller has to lend for n hours, told beforehand. Assumes nothing.
--
--   places_needed n   how many coefficients the table of n hours has, P; 0 if n is no number of hours
--   bytes_needed n    how many bytes its record has; 0 if n is no number of hours
use Rattle.std.specs.Prelude.{cond, ℕ}
use Rattle.om3.specs.Series.{bad_hours, P}
use Rattle.om3.specs.Record.{record_size}

abbrev pub places_needed : ℕ → ℕ
places_needed n = cond (bad_hours n) 0 (P n)

abbrev pub bytes_needed : ℕ → ℕ
bytes_needed n = cond (bad_hours n) 0 (record_size n)
