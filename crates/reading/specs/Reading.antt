-- What reading a record promises. Cited by the contracts of this crate and of the boundary. Assumes nothing.
--
--   parts_check            the checks of reading that are left once the record is opened, as one
--   PartsRead             the contract of reading the parts of an opened record
--   RecordRead            the contract of `read_record`: its answer, and the lent coefficients and codes whole
use Rattle.std.specs.Prelude.{◌≡◌, List, [], ◌∷◌, ℕ, ℤ}
use Rattle.std.specs.Prelude.{Err, Ok, Result}
use Rattle.words.specs.declared.Refusal.{Refusal}
use Rattle.om3.specs.Table.{lent}
use Rattle.om3.specs.Checks.{Check, in_order, answer_by}
use Rattle.om3.specs.Refusals.{table_short, check_room, examine_table}
use Rattle.om3.specs.Calls.{written_by}
use Rattle.om3.specs.Bytes.{Bytes}
use Rattle.om3.specs.Record.{table_in}
use Rattle.om3.specs.RecordCalls.{unpacking_checks, unpacking}
use Rattle.packing.specs.Packing.{unpacked}

-- 3 and 4. [refusals 19]
abbrev pub parts_check : (n : ℕ) (bs qs : List ℕ) (cs : List ℤ) (ks : List ℕ) → Check
parts_check n bs qs cs ks =
    in_order (check_room (table_short n (lent cs ks)) ∷ examine_table n (lent (unpacked bs) qs) ∷ [])

-- These parts become a table in the lent coefficients cs and codes ks.
pub record PartsRead (n : ℕ) (bs qs : List ℕ) (cs : List ℤ) (ks : List ℕ) (cs' : List ℤ) (ks' : List ℕ)
    (r : Result ℕ Refusal) : Type 0 where
  pub answer : r ≡ answer_by Err (parts_check n bs qs cs ks) (Ok n)
  pub coefficients : cs' ≡ written_by (parts_check n bs qs cs ks) (unpacked bs) cs
  pub codes : ks' ≡ written_by (parts_check n bs qs cs ks) qs ks

-- The record r, of bytes as every lent slice of them is, becomes the table of its hours in the lent coefficients cs and
-- codes ks.
-- [refusals 14, 15, 16, 19] [statements 1]
pub record RecordRead (r : List ℕ) (cs : List ℤ) (ks : List ℕ) (cs' : List ℤ) (ks' : List ℕ) (u : Result ℕ Refusal)
    : Type 0 where
  pub bytes : Bytes r
  pub answer : u ≡ unpacking r (lent cs ks)
  pub coefficients : cs' ≡ written_by (in_order (unpacking_checks r (lent cs ks))) (table_in r).coefficients cs
  pub codes : ks' ≡ written_by (in_order (unpacking_checks r (lent cs ks))) (table_in r).codes ks
