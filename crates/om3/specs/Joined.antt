-- Document 01, "Columns": joining two answers. Assumes nothing.
--
--   joined left right   the answer of the left hours and the answer of the right hours, together
use Rattle.std.specs.Int.{int_min, int_max}
use Rattle.std.specs.Prelude.{None, Option, Some}
use Rattle.words.specs.declared.Summary.{Summary}

-- First from the left, last from the right, lesser low, greater high; "no reading" joined with an answer gives that
-- answer. Answers here have no counts. [columns 19, 20]
abbrev pub joined : Option Summary → Option Summary → Option Summary
joined None right = right
joined (Some left) None = Some left
joined (Some left) (Some right) =
    Some
    (record {
      first = left.first;
      last = right.last;
      low = int_min left.low right.low;
      high = int_max left.high right.high;
    })
