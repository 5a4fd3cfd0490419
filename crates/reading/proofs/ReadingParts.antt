-- Each answer of reading the parts of an opened record: checks 3 and 4 in their order, and a sound table, unpacked into
-- the first places of the buffers. Assumes nothing.
use Rattle.kit.proofs.{◌≡◌, sym, ◌∙◌, Bool, true, false, ◌||◌, List, ◌++◌, ℕ, ◌/◌, arith, ℤ, length, drop}
use Rattle.kit.proofs.{Err, Ok, Result}
use Rattle.words.specs.declared.{NodeId.NodeId, Refusal.Refusal}
use Rattle.words.specs.declared.Refusal.TheVariants as refusal
use Rattle.om3.specs.Document.{lent, Check, refuses, in_order, short, table_short, examine_table}
use Rattle.laws.proofs.{Examined.then-passes}
use Rattle.examining.specs.Examining.{check_of}
use Rattle.examining.proofs.Told.{RefusedBy, refused-by}
use Rattle.packing.specs.Packing.{unpacked}
use Rattle.examining_bytes.specs.Packed.{PackedTable}
use Rattle.reading.specs.Reading.{parts_check, PartsRead}
use Rattle.examining_bytes.proofs.Unpacked.{unpacked-length}

-- The lent buffers are cs and ds, and this is what check 3 found of them.
module _ (n p : ℕ) (bs ks : List ℕ) (cs : List ℤ) (ds : List ℕ) (t : PackedTable n p bs ks) {less : Bool}
    (told : less ≡ (short (length cs) p || short (length ds) (p / 2))) where
  abbrev checks : Check
  checks = parts_check n bs ks cs ds

  refused : (why : Refusal) → checks ≡ refuses why → PartsRead n bs ks cs ds cs ds (Err why)
  refused why e = record { answer = rw e; coefficients = rw e; codes = rw e }

  found : less ≡ table_short n (lent cs ds)
  found = rw t.places at told

  pub short-table : less ≡ true → PartsRead n bs ks cs ds cs ds (Err refusal.ShortBuffer)
  unfolding in_order
  short-table h = refused refusal.ShortBuffer (rw (sym found ∙ h))

  -- Only the table itself is still to examine.
  module _ (room : less ≡ false) where
    examined : checks ≡ examine_table n (lent (unpacked bs) ks)
    unfolding in_order
    examined = rw (sym found ∙ room) (then-passes (examine_table n (lent (unpacked bs) ks)))

    module _ (r : Result Unit NodeId) (e : check_of r ≡ examine_table n (lent (unpacked bs) ks)) where
      pub unsound-refused : (why : Refusal) → RefusedBy r why → PartsRead n bs ks cs ds cs ds (Err why)
      unsound-refused why told = refused why (examined ∙ sym e ∙ refused-by r told)

      pub table-read : r ≡ Ok tt → (cs' : List ℤ) → cs' ≡ unpacked bs → (ds' : List ℕ) → ds' ≡ ks
          → PartsRead n bs ks cs ds (cs' ++ drop p cs) (ds' ++ drop (length ks) ds) (Ok n)
      table-read g cs' c ds' d =
          let taken = examined ∙ sym (rw g at e) in
          let thirds : length bs / 3 ≡ p = omega (arith, t.coefficients) in
          record {
            answer = rw taken;
            coefficients = rw (taken, c, unpacked-length bs, thirds);
            codes = rw (taken, d);
          }
