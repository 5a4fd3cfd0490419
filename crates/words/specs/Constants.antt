-- The numbers of document 01, once each. The code has the same in src/lib.rt. Assumes nothing.
--
--   largest_level, largest_hours         the largest l and the largest n
--   largest_reading, largest_detail      the largest reading and the largest detail; the least are their negatives
--   left_mark, right_mark, gap_mark, gap  the marks; gap is the last as a signed number, what a gap holds
--   most_columns, day_hours, version     the most columns of a window, the hours of a day, the record's version
--   turn, half_turn                     a turn of an old scale's count, and half of it
use Rattle.std.specs.Prelude.{ℕ, ◌^◌, ℤ, pos}

-- l goes from 1 to 14. [hours 4]
abbrev pub largest_level : ℕ
largest_level = 14

-- A series has 1 to 16,384 hours: the largest P. [hours 1]
abbrev pub largest_hours : ℕ
largest_hours = 2 ^ largest_level

-- A reading is from −1,000,000 to 1,000,000 grams. [hours 2]
abbrev pub largest_reading : ℕ
largest_reading = 1000000

-- A detail is from −2,000,000 to 2,000,000. [table 4]
abbrev pub largest_detail : ℕ
largest_detail = 2000000

-- Only the left half has readings; only the right half has; neither has, or the hour is a gap. [table 5] [hours 2]
abbrev pub left_mark : ℕ
left_mark = 2000001

abbrev pub right_mark : ℕ
right_mark = 2000002

abbrev pub gap_mark : ℕ
gap_mark = 2000003

abbrev pub gap : ℤ
gap = pos gap_mark

-- A window is drawn in 1 to 4,096 columns. [refusals 6]
abbrev pub most_columns : ℕ
most_columns = 4096

-- A day has 24 hours. [columns 21]
abbrev pub day_hours : ℕ
day_hours = 24

-- A count of the old scales turns over at 65,536; half a turn is the largest step down. [wish1 3, 4]
abbrev pub turn : ℕ
turn = 65536

abbrev pub half_turn : ℕ
half_turn = 32768

-- The version of the house record. [record 3]
abbrev pub version : ℕ
version = 1
