-- Document 01, "Refusal numbers" and "One level, single coefficients": writing, reading, opening and asking a record,
-- with their checks in order. Assumes nothing.
--
--   writing_checks n t size   the checks of writing the record of a table, with so many bytes lent for it
--   writing n t size         what writing answers
--   check_header, check_version, check_length, check_cut, check_after
--                            8, 9, 10, 8 and 11, of a record's bytes r; 1 is check_hours
--   opening_checks r          the checks of opening; opening r, what it answers; Openable r, what it asks of the bytes
--   unpacking_checks r t      the checks of reading, which unpacks r into the lent table t; unpacking, what it answers
--   check_place, check_reach   13 and 8, of a place asked for
--   view_checks r places p    the checks of asking a view of the bytes r and of P = places for place p; asking_view,
--                             what
--                            it answers
--   asking_checks r p         the checks of asking a record for place p; asking, what it answers
use Rattle.std.specs.Prelude.{◌≡◌, false, not, ◌||◌, List, [], ◌∷◌, ℕ, ◌+◌, ◌*◌, leb, ltb, eqb, length, ℤ, Err, Ok}
use Rattle.std.specs.Prelude.{Result}
use Rattle.words.specs.declared.Refusal.{Refusal}
use Rattle.words.specs.Said.{opened_as}
use Rattle.words.specs.Constants.{version}
use Rattle.words.specs.declared.Refusal.TheVariants.{CutShort, BadVersion, BadLength, BytesAfter, BadPlace}
use Rattle.words.specs.declared.Opening.{Opening}
use Rattle.om3.specs.Series.{bad_hours, P}
use Rattle.om3.specs.Table.{Table}
use Rattle.om3.specs.Checks.{Check, refuse_if, in_order, answer_by}
use Rattle.om3.specs.Refusals.{check_hours, check_room, short, table_short, examine_table}
use Rattle.om3.specs.Record.{record_length, record_size, header_size, length_in, version_in, hours_in, coefficient_in}
use Rattle.om3.specs.Record.{table_in}

-- Writing a record: 1, 3, 4. Needed are the table, and room for the whole record. [refusals 15, 18]
abbrev pub writing_checks : ℕ → Table → (size : ℕ) → List Check
writing_checks n t size =
    check_hours n
    ∷ check_room (table_short n t || short size (record_size n))
    ∷ examine_table n t
    ∷ []

-- A successful writing answers the number of bytes of the record.
abbrev pub writing : ℕ → Table → (size : ℕ) → Result ℕ Refusal
writing n t size = answer_by Err (in_order (writing_checks n t size)) (Ok (record_size n))

-- 8: under 7 bytes. [refusals 8, 19]
abbrev pub check_header : List ℕ → Check
check_header r = refuse_if (ltb (length r) header_size) CutShort

-- 9: the version is not 1. [refusals 9]
abbrev pub check_version : List ℕ → Check
check_version r = refuse_if (not (eqb (version_in r) version)) BadVersion

-- 10: the length field is not that of n. [refusals 10]
abbrev pub check_length : List ℕ → Check
check_length r = refuse_if (not (eqb (length_in r) (record_length (hours_in r)))) BadLength

-- 8: fewer bytes than stated. [refusals 8, 19]
abbrev pub check_cut : List ℕ → Check
check_cut r = refuse_if (ltb (length r) (4 + length_in r)) CutShort

-- 11: more. [refusals 11, 19]
abbrev pub check_after : List ℕ → Check
check_after r = refuse_if (ltb (4 + length_in r) (length r)) BytesAfter

-- Opening makes the reading checks except 3 and 4: under 7 bytes 8; then 9, 1, 10; fewer bytes than stated 8; more 11.
-- [refusals 19] [level 3]
abbrev pub opening_checks : List ℕ → List Check
opening_checks r =
    check_header r
    ∷ check_version r
    ∷ check_hours (hours_in r)
    ∷ check_length r
    ∷ check_cut r
    ∷ check_after r
    ∷ []

-- It answers n and P.
unfoldable pub opening : List ℕ → Result Opening Refusal
opening r = answer_by Err (in_order (opening_checks r)) (opened_as (hours_in r) (P (hours_in r)))

-- What passes all of them: the fields fit one another and the length. [refusals 19]
pub record Openable (r : List ℕ) : Type 0 where
  pub versioned : version_in r ≡ version
  pub timed : bad_hours (hours_in r) ≡ false
  pub stated : length_in r ≡ record_length (hours_in r)
  pub sized : length r ≡ record_size (hours_in r)

-- Reading one: under 7 bytes 8; then 9, 1, 10; fewer bytes than stated 8; more 11; then 3, 4. The lent table is to be
-- written. [refusals 15, 19]
abbrev pub unpacking_checks : List ℕ → Table → List Check
unpacking_checks r t =
    check_header r
    ∷ check_version r
    ∷ check_hours (hours_in r)
    ∷ check_length r
    ∷ check_cut r
    ∷ check_after r
    ∷ check_room (table_short (hours_in r) t)
    ∷ examine_table (hours_in r) (table_in r)
    ∷ []

-- A successful reading answers n.
abbrev pub unpacking : List ℕ → Table → Result ℕ Refusal
unpacking r t = answer_by Err (in_order (unpacking_checks r t)) (Ok (hours_in r))

-- 13: the place is P or more. [level 3] [refusals 13]
abbrev pub check_place : (places p : ℕ) → Check
check_place places p = refuse_if (leb places p) BadPlace

-- 8: the bytes do not reach the coefficient at place p. No opened record has such a place; the check is ours, so that
-- every view is answered. [refusals 8]
abbrev pub check_reach : List ℕ → ℕ → Check
check_reach r p = refuse_if (ltb (length r) (header_size + 3 * p + 3)) CutShort

-- A view of bytes and P is asked: 13, then 8. [level 3]
abbrev pub view_checks : List ℕ → (places p : ℕ) → List Check
view_checks r places p = check_place places p ∷ check_reach r p ∷ []

unfoldable pub asking_view : List ℕ → (places p : ℕ) → Result ℤ Refusal
asking_view r places p =
    answer_by Err (in_order (view_checks r places p)) (Ok (coefficient_in r p))

-- A record is opened and asked: the checks of opening, then 13. [level 3]
abbrev pub asking_checks : List ℕ → (p : ℕ) → List Check
asking_checks r p =
    check_header r
    ∷ check_version r
    ∷ check_hours (hours_in r)
    ∷ check_length r
    ∷ check_cut r
    ∷ check_after r
    ∷ check_place (P (hours_in r)) p
    ∷ []

unfoldable pub asking : List ℕ → (p : ℕ) → Result ℤ Refusal
asking r p = answer_by Err (in_order (asking_checks r p)) (Ok (coefficient_in r p))
