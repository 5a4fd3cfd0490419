-- What writing a record promises. Cited by the contracts of this crate and of the boundary. Assumes nothing.
--
--   Ready n cs ks size   P coefficients, each of which three bytes hold, P/2 codes, and room for their record
--   RecordWritten        the contract of `write_record`: its answer, and the lent bytes whole
use Rattle.std.specs.Prelude.{◌≡◌, List, ℕ, ◌/◌, ◌≤◌, ℤ, length}
use Rattle.std.specs.Prelude.{Result}
use Rattle.words.specs.declared.Refusal.{Refusal}
use Rattle.words.specs.Constants.{largest_hours}
use Rattle.om3.specs.Series.{P}
use Rattle.om3.specs.Table.{lent}
use Rattle.om3.specs.Checks.{in_order}
use Rattle.om3.specs.Calls.{written_by}
use Rattle.om3.specs.Record.{record_size, record_of}
use Rattle.om3.specs.RecordCalls.{writing_checks, writing}
use Rattle.packing.specs.Packing.{EachInThree}

-- What is to be written, and room for it. [record 5, 6]
pub record Ready (n : ℕ) (cs : List ℤ) (ks : List ℕ) (size : ℕ) : Type 0 where
  pub most : n ≤ largest_hours
  pub coefficients : length cs ≡ P n
  pub threes : EachInThree cs
  pub codes : length ks ≡ P n / 2
  pub room : record_size n ≤ size

-- The table of n hours in lent coefficients cs and codes ks becomes its record in the lent bytes out.
-- [refusals 14, 15, 16, 18] [statements 1]
pub record RecordWritten (n : ℕ) (cs : List ℤ) (ks : List ℕ) (out out' : List ℕ) (r : Result ℕ Refusal) : Type 0 where
  pub answer : r ≡ writing n (lent cs ks) (length out)
  pub bytes : out' ≡ written_by (in_order (writing_checks n (lent cs ks) (length out))) (record_of n (lent cs ks)) out
