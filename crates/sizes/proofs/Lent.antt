-- A table is lent whole exactly if checks 1 and 3 pass for it, and so is one in as many places as are told to be
-- needed; what these two checks say, and of a call that begins with them. Assumes nothing.
use Rattle.kit.proofs.{◌≡◌, ◌∙◌, true, false, List, [], ◌∷◌, ℕ, ◌/◌, ◌≤◌, ℤ, length}
use Rattle.words.specs.declared.{Refusal.Refusal, Refusal.TheVariants.BadHours, Refusal.TheVariants.ShortBuffer}
use Rattle.om3.specs.Document.{bad_hours, Table, lent, Check, passes, refuses, and_then, in_order, check_hours}
use Rattle.om3.specs.Document.{check_room, table_short}
use Rattle.laws.proofs.{Examined.in-order-append}
use Rattle.laws.proofs.Lent.{not_short, coefficients-there, codes-there}
use Rattle.sizes.specs.declared.table.LentTable.{LentTable}
use Rattle.sizes.specs.{Lent.lent_check, Lent.TableLent, Lent.IsLent, Needed.places_needed}
use Rattle.std.specs.Borrow.{Bor}

module _ (n : ℕ) (cs : List ℤ) (ks : List ℕ) where
  pub table-lent : bad_hours n ≡ false → table_short n (lent cs ks) ≡ false → TableLent n cs ks
  table-lent good room =
      record {
        good = good;
        coefficients = coefficients-there n (lent cs ks) room;
        codes = codes-there n (lent cs ks) room;
      }

  pub table-room : TableLent n cs ks → table_short n (lent cs ks) ≡ false
  table-room t = not_short n (lent cs ks) t.coefficients t.codes

  pub needed-room : bad_hours n ≡ false → places_needed n ≤ length cs → places_needed n / 2 ≤ length ks
      → table_short n (lent cs ks) ≡ false
  needed-room good c k = not_short n (lent cs ks) (rw good at c) (rw good at k)

-- Checks 1 and 3, in their order.
module _ (n : ℕ) (cs : List ℤ) (ks : List ℕ) where
  abbrev T : Table
  T = lent cs ks

  pub bad-hours : bad_hours n ≡ true → lent_check n T ≡ refuses BadHours
  unfolding in_order
  bad-hours b = rw b

  module _ (good : bad_hours n ≡ false) where
    pub short-table : table_short n T ≡ true → lent_check n T ≡ refuses ShortBuffer
    unfolding in_order
    short-table h = rw (good, h)

    pub enough : table_short n T ≡ false → lent_check n T ≡ passes
    unfolding in_order
    enough h = rw (good, h)

-- The checks of a call that begin with these two: where they refuse, that decides; where they pass, the rest does.
module _ (n : ℕ) (t : Table) (rest : List Check) where
  abbrev whole : Check
  whole = in_order (check_hours n ∷ check_room (table_short n t) ∷ rest)

  parted : whole ≡ and_then (lent_check n t) (in_order rest)
  parted = in-order-append (check_hours n ∷ check_room (table_short n t) ∷ []) rest

  pub lent-refuses : (why : Refusal) → lent_check n t ≡ refuses why → whole ≡ refuses why
  lent-refuses why e = parted ∙ rw e

  pub lent-passes : lent_check n t ≡ passes → whole ≡ in_order rest
  lent-passes e = parted ∙ rw e

-- What a lent table is by its own invariant.
pub is-lent : (t : LentTable) → TableLent t.table.n t.table.coefficients.now t.table.codes.now
is-lent t = record { good = t.hours; coefficients = t.coefficients_lent; codes = t.codes_lent }

-- What a table is that these two checks have answered: the one that was lent.
pub lent-there : {n : ℕ} {cs : Bor (List ℤ)} {ks : Bor (List ℕ)} {t : LentTable} → IsLent n cs ks t
    → TableLent n cs.now ks.now
lent-there {t = t} h = rw (h.hours, h.coefficients, h.codes) at (is-lent t)
