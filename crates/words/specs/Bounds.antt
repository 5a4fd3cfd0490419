-- How far the numbers of a range go, as contracts ask and promise it. Assumes nothing.
--
--   Readings r   a range is one of readings: low ≤ high, and both are readings; nothing is asked of an empty one
use Rattle.std.specs.Prelude.{pos, neg_ℤ, ◌≤ℤ◌, ℤ, None, Option, Some}
use Rattle.words.specs.Constants.{largest_reading}
use Rattle.words.specs.declared.Range.{Range}

abbrev pub Readings : Option Range → Type 0
Readings None = Unit
Readings (Some r) = (neg_ℤ (pos largest_reading) ≤ℤ r.low) × (r.low ≤ℤ r.high) × (r.high ≤ℤ pos largest_reading)
