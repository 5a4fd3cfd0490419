-- That a table is lent whole. Cited by the contracts of what is done after checks 1 and 3, and where demand 2 speaks of
-- room lent. Assumes nothing.
--
--   lent_check n t                 checks 1 and 3 of a table, as one
--   TableLent n cs ks             checks 1 and 3 pass for a table of n hours in the buffers cs and ks
--   IsLent n cs ks t              they have passed, and t is the table in these buffers
--   LentTableOf n cs ks r         what the answer r says: that table, or the refusal of the first that refuses
--   Enough n cs ks size needed    and as much of a further buffer is lent as is needed of it
use Rattle.std.specs.Prelude.{◌≡◌, false, List, [], ◌∷◌, ℕ, ◌/◌, ◌≤◌, ℤ, length, Err, Ok, Result}
use Rattle.std.specs.Borrow.{Bor}
use Rattle.words.specs.declared.Refusal.{Refusal}
use Rattle.sizes.specs.declared.table.LentTable.{LentTable}
use Rattle.om3.specs.Series.{bad_hours, P}
use Rattle.om3.specs.Table.{Table, lent}
use Rattle.om3.specs.Checks.{Check, passes, refuses, in_order}
use Rattle.om3.specs.Refusals.{check_hours, check_room, table_short}

-- Of a table that is lent, these two come first. [refusals 17]
abbrev pub lent_check : ℕ → Table → Check
lent_check n t = in_order (check_hours n ∷ check_room (table_short n t) ∷ [])

-- n is a number of hours, and P coefficients and P/2 codes are there. [refusals 1, 3, 15]
pub record TableLent (n : ℕ) (cs : List ℤ) (ks : List ℕ) : Type 0 where
  pub good : bad_hours n ≡ false
  pub coefficients : P n ≤ length cs
  pub codes : P n / 2 ≤ length ks

-- The two checks have passed, and t is the table that was lent.
pub record IsLent (n : ℕ) (cs : Bor (List ℤ)) (ks : Bor (List ℕ)) (t : LentTable) : Type 0 where
  pub checks : lent_check n (lent cs.now ks.now) ≡ passes
  pub hours : t.table.n ≡ n
  pub coefficients : t.table.coefficients ≡ cs
  pub codes : t.table.codes ≡ ks

-- The refusal is that of the first check that refuses.
abbrev pub LentTableOf : ℕ → Bor (List ℤ) → Bor (List ℕ) → Result LentTable Refusal → Type 0
LentTableOf n cs ks (Err why) = lent_check n (lent cs.now ks.now) ≡ refuses why
LentTableOf n cs ks (Ok t) = IsLent n cs ks t

-- The table, and room for what it becomes. [refusals 15]
pub record Enough (n : ℕ) (cs : List ℤ) (ks : List ℕ) (size needed : ℕ) : Type 0 where
  pub table : TableLent n cs ks
  pub buffer : needed ≤ size
