-- Document 01, "Refusal numbers" and "The column printer", and document 02: where two causes stand together, the one
-- whose turn is first decides. For each call and each two neighbours of its order a question in which both are there,
-- so that with the two exchanged it would be replied to otherwise; where they exclude each other, a comment says so.
-- That the definitions reply as the list says is proved in proofs/Causes. Assumes nothing.
--
--   two_causes   the questions with their replies, for each two neighbours the first; above them the order of the call
use mathlib.Core.List.{List, [], ◌∷◌, ◌++◌, flatten}
use Rattle.std.specs.Prelude.{ℕ, ◌+◌, ℤ, replicate}
use Rattle.words.specs.Constants.{largest_hours}
use Rattle.om3.specs.Questions.{making_for, turning_for, finished_in, stopped_in, day_in, edges_for, writing_for}
use Rattle.om3.specs.Questions.{reading_for, open_for, ask_for, view_for, print_for, rebuild_for, bytes}
use Rattle.om3.specs.Text.{ascii}
use Rattle.om3.specs.Numbers.{Case, ◌is◌, ◌prints◌, g, refusal, eight, fourteen, damaged}
use Rattle.om3.specs.LaterNumbers.{rising}

-- One hour more than a series has.
abbrev too_many : ℕ
too_many = largest_hours + 1

-- Root values 5, 4: a table of two hours that is refused by 4.
abbrev unsound : List ℤ
unsound = g 5 ∷ g 4 ∷ []

-- Bytes with two causes each: under 7 bytes, of version 2; of version 2, without an hour; without an hour, and the
-- length is not that of n; such a length, and fewer bytes than it states; such a length, and more.
abbrev six_of_version2 : List ℕ
six_of_version2 = 0 ∷ 0 ∷ 0 ∷ 10 ∷ 2 ∷ 0 ∷ []

abbrev no_hour_of_version2 : List ℕ
no_hour_of_version2 = 0 ∷ 0 ∷ 0 ∷ 10 ∷ 2 ∷ 0 ∷ 0 ∷ replicate 7 0

abbrev no_hour_of_length3 : List ℕ
no_hour_of_length3 = 0 ∷ 0 ∷ 0 ∷ 3 ∷ 1 ∷ 0 ∷ 0 ∷ []

abbrev length_and_cut : List ℕ
length_and_cut = 0 ∷ 0 ∷ 0 ∷ 11 ∷ 1 ∷ 0 ∷ 1 ∷ replicate 7 0

abbrev length_and_after : List ℕ
length_and_after = 0 ∷ 0 ∷ 0 ∷ 9 ∷ 1 ∷ 0 ∷ 1 ∷ replicate 7 0

-- A record of one hour without its last byte, and with one byte more.
abbrev cut : List ℕ
cut = 0 ∷ 0 ∷ 0 ∷ 10 ∷ 1 ∷ 0 ∷ 1 ∷ replicate 6 0

abbrev longer : List ℕ
longer = fourteen ++ 0 ∷ []

-- As many dashes as a series has hours, one a line.
abbrev dashes : List ℕ
dashes = flatten (replicate largest_hours (ascii "-\n"))

abbrev pub two_causes : List Case
two_causes =
    -- making 1, 3, 2 [refusals 17]
    (making_for too_many [] is refusal 1 0)
    ∷ (making_for 2 (g 1000001 ∷ []) is refusal 3 0)
    -- turning back 1, 3, 4 [refusals 17]
    ∷ (turning_for too_many [] [] is refusal 1 0)
    ∷ (turning_for 2 unsound [] is refusal 3 0)
    -- columns 1, 3, 5, 6, 7, 4 [refusals 17]
    ∷ (stopped_in too_many [] [] 0 1 1 0 0 is refusal 1 0)
    ∷ (stopped_in 2 [] [] 1 1 1 0 0 is refusal 3 0)
    ∷ (stopped_in 2 (g 4 ∷ g 5 ∷ []) (0 ∷ []) 1 1 1 1 0 is refusal 5 0)
    ∷ (stopped_in 2 (g 4 ∷ g 5 ∷ []) (0 ∷ []) 0 2 1 1 2 is refusal 6 0)
    ∷ (stopped_in 2 unsound (0 ∷ []) 0 2 1 0 2 is refusal 7 0)
    -- finished columns 1, 3, 5, 6, 4 [refusals 17]
    ∷ (finished_in too_many [] [] 0 1 1 0 is refusal 1 0)
    ∷ (finished_in 2 [] [] 1 1 1 0 is refusal 3 0)
    ∷ (finished_in 2 (g 4 ∷ g 5 ∷ []) (0 ∷ []) 1 1 1 1 is refusal 5 0)
    ∷ (finished_in 2 unsound (0 ∷ []) 0 2 1 1 is refusal 6 0)
    -- in 4 the opened nodes, then the walk to the first, then to the last: pair 7 is opened for [0, 7), and for [0, 8)
    -- the walks end at pairs 4 and 7 [columns 16]
    ∷ (finished_in 8 eight (9 ∷ 1 ∷ 1 ∷ 9 ∷ []) 0 7 1 0 is refusal 4 7)
    ∷ (finished_in 8 eight (9 ∷ 1 ∷ 1 ∷ 9 ∷ []) 0 8 1 0 is refusal 4 4)
    -- column edges 1, 5, 6 [refusals 20]
    ∷ (edges_for 0 0 1 1 0 is refusal 1 0)
    ∷ (edges_for 2 1 1 1 1 is refusal 5 0)
    -- day 1, 3, 5, 4; 5 and 4 exclude each other: a day refused by 5 has no hour, so that nothing is examined
    -- [refusals 17]
    ∷ (day_in too_many [] [] 0 is refusal 1 0)
    ∷ (day_in 2 [] [] 1 is refusal 3 0)
    -- in 4 the day, then the hours before it: the walks to the first reading of day 1 and of day 0 end at pairs 44
    -- and 32 [wish2 7]
    ∷ (day_in 48 rising (9 ∷ replicate 11 1 ++ 9 ∷ replicate 11 1 ++ replicate 8 4) 1 is refusal 4 44)
    -- writing a record 1, 3, 4 [refusals 18]
    ∷ (writing_for too_many [] [] 0 is refusal 1 0)
    ∷ (writing_for 2 unsound (0 ∷ []) 13 is refusal 3 0)
    -- reading one 8, 9, 1, 10, 8, 11, 3, 4; the second 8 and 11 exclude each other, so 10 comes before 11 too, and 8
    -- before 3 [refusals 19]
    ∷ (reading_for six_of_version2 2 1 is refusal 8 0)
    ∷ (reading_for no_hour_of_version2 2 1 is refusal 9 0)
    ∷ (reading_for no_hour_of_length3 2 1 is refusal 1 0)
    ∷ (reading_for length_and_cut 2 1 is refusal 10 0)
    ∷ (reading_for length_and_after 2 1 is refusal 10 0)
    ∷ (reading_for cut 1 1 is refusal 8 0)
    ∷ (reading_for longer 1 1 is refusal 11 0)
    ∷ (reading_for damaged 1 1 is refusal 3 0)
    -- opening one without 3, 4 [level 3]
    ∷ (open_for six_of_version2 is refusal 8 0)
    ∷ (open_for no_hour_of_version2 is refusal 9 0)
    ∷ (open_for no_hour_of_length3 is refusal 1 0)
    ∷ (open_for length_and_cut is refusal 10 0)
    ∷ (open_for length_and_after is refusal 10 0)
    -- asking one, the checks of opening and 13 [level 3]
    ∷ (ask_for six_of_version2 0 is refusal 8 0)
    ∷ (ask_for no_hour_of_version2 0 is refusal 9 0)
    ∷ (ask_for no_hour_of_length3 0 is refusal 1 0)
    ∷ (ask_for length_and_cut 0 is refusal 10 0)
    ∷ (ask_for length_and_after 0 is refusal 10 0)
    ∷ (ask_for cut 2 is refusal 8 0)
    ∷ (ask_for longer 2 is refusal 11 0)
    -- asking a view 13, 8 [level 3]
    ∷ (view_for [] 2 2 is refusal 13 0)
    -- the printer 12, 1, 2, 5, 6 [printer 5]
    ∷ (print_for (ascii "0 1 1\n+\n" ++ dashes) is bytes (ascii "refused 12 at 2\n"))
    ∷ (print_for (ascii "0 1 1\n1000001\n" ++ dashes) is bytes (ascii "refused 1 at 0\n"))
    ∷ ("1 1 1\n1000001" prints "refused 2 at 0\n")
    ∷ ("1 1 0\n5" prints "refused 5 at 0\n")
    -- rebuilding an old log 1, 3, 14, 15, 2 [wish1 6]
    ∷ (rebuild_for too_many [] [] (g 5) is refusal 1 0)
    ∷ (rebuild_for 2 (5 ∷ []) (2 ∷ 1 ∷ []) (g 5) is refusal 3 0)
    ∷ (rebuild_for 2 (5 ∷ 5 ∷ []) (1 ∷ 2 ∷ []) (g 6) is refusal 14 1)
    ∷ (rebuild_for 1 (5 ∷ []) (1 ∷ []) (g 2000003) is refusal 15 0)
    ∷ []
