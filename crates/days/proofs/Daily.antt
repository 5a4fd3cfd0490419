-- The difference of two readings. Assumes nothing.
use Rattle.kit.proofs.{◌≡◌, ℤ, ◌-ℤ◌, w32, SFits, to_z, of_z, to_z-of_z, None, Option, Some}
use Rattle.words.specs.declared.Summary.{Summary}
use Rattle.signed.proofs.{signed}
use Rattle.om3.specs.Document.{change_of, added_by}
use Rattle.walking.specs.Walking.{Small}
use Rattle.columns.specs.Drawing.{SmallAnswer}

-- What a reading or a gap holds fits into 32 bits.
small-fits : (z : ℤ) → Small z → SFits w32 z
small-fits z p = omega signed

-- So does the difference z − y of two of them, which the machine makes of what it reads back from their bits.
module _ (z y : ℤ) (p : Small z) (q : Small y) where
  read_back : to_z w32 (of_z w32 z) -ℤ to_z w32 (of_z w32 y) ≡ z -ℤ y
  read_back = rw (to_z-of_z (small-fits z p), to_z-of_z (small-fits y q))

  difference-fits : SFits w32 (z -ℤ y)
  difference-fits = omega signed

  pub change-fits : SFits w32 (to_z w32 (of_z w32 z) -ℤ to_z w32 (of_z w32 y))
  change-fits = rw read_back difference-fits

  pub change-is : to_z w32 (of_z w32 (to_z w32 (of_z w32 z) -ℤ to_z w32 (of_z w32 y))) ≡ z -ℤ y
  change-is = rw read_back (to_z-of_z difference-fits)

-- Whatever small answers the hours before a day and the day have, the change is a number of 32 bits.
pub change-small : (earlier own : Option Summary) → SmallAnswer earlier → SmallAnswer own
    → SFits w32 (added_by (change_of earlier own))
change-small earlier None p q = omega signed
change-small None (Some own) p q =
    difference-fits own.last.grams own.first.grams q.1 q.0
change-small (Some earlier) (Some own) p q =
    difference-fits own.last.grams earlier.last.grams q.1 p.1
