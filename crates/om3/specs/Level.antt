-- Document 01, "One level, single coefficients": one level's details. Assumes nothing.
--
--   has_level n j size        whether there is a level j of details in a table of n hours, lent as so many coefficients
--   level_stretch n j size    the places of its details
--   places_of stretch cs      what stands at these places of the coefficients
use Rattle.std.specs.Prelude.{Bool, cond, not, ◌&&◌, ◌||◌, List, ℕ, ◌+◌, ◌*◌, ◌^◌, leb, ℤ, take, drop}
use Rattle.words.specs.declared.Stretch.{Stretch}
use Rattle.om3.specs.Series.{bad_hours, levels, P}
use Rattle.om3.specs.Refusals.{short}

-- A level is there for j up to l − 2, if n is 1 to 16,384 and the coefficients are not too short. [level 1, 2]
abbrev pub has_level : (n j size : ℕ) → Bool
has_level n j size = not (bad_hours n || short size (P n)) && leb (j + 2) (levels n)

-- Places 2·2^j to 4·2^j − 1; any other level, and the causes of 1 and 3, give a stretch of length 0. [level 1, 2]
unfoldable pub level_stretch : (n j size : ℕ) → Stretch
level_stretch n j size =
    cond (has_level n j size) (record { start = 2 * 2 ^ j; length = 2 * 2 ^ j }) (record { start = 0; length = 0 })

-- That stretch of the table itself. [level 1]
abbrev pub places_of : Stretch → List ℤ → List ℤ
places_of stretch coefficients = take stretch.length (drop stretch.start coefficients)
