-- Numbers for the requests of document 02: questions with the answers that its sentences give. That the definitions
-- answer so is proved in proofs/LaterNumbers. Assumes nothing.
--
--   old_logs      wish 1: logs of the old scales
--   day_changes   wish 2: days that add up; rising, the coefficients of 48 hours
use Rattle.std.specs.Prelude.{List, [], ◌∷◌, ◌++◌, map, ℤ, replicate}
use Rattle.words.specs.Constants.{gap}
use Rattle.words.specs.Said.{taken}
use Rattle.om3.specs.Lists.{up_from}
use Rattle.om3.specs.Questions.{Reply, table_from, rebuild_for, day_for, day_in, says}
use Rattle.om3.specs.Numbers.{Case, ◌is◌, g, -g, refusal}

-- Taken, and these hours are written.
abbrev writes : List ℤ → Reply
writes hours = says (taken hours)

abbrev pub old_logs : List Case
old_logs =
    -- a step over the wrap, up and down [wish1 3]
    (rebuild_for 2 (65530 ∷ 4 ∷ []) (1 ∷ 1 ∷ []) (g 65530) is writes (g 65530 ∷ g 65540 ∷ []))
    ∷ (rebuild_for 2 (4 ∷ 65530 ∷ []) (1 ∷ 1 ∷ []) (g 65540) is writes (g 65540 ∷ g 65530 ∷ []))
    -- half a turn is a step down, from either count, and one gram less a step up [wish1 3]
    ∷ (rebuild_for 2 (0 ∷ 32768 ∷ []) (1 ∷ 1 ∷ []) (g 0) is writes (g 0 ∷ -g 32768 ∷ []))
    ∷ (rebuild_for 2 (32768 ∷ 0 ∷ []) (1 ∷ 1 ∷ []) (g 32768) is writes (g 32768 ∷ g 0 ∷ []))
    ∷ (rebuild_for 2 (0 ∷ 32767 ∷ []) (1 ∷ 1 ∷ []) (g 0) is writes (g 0 ∷ g 32767 ∷ []))
    -- gaps between and around; a count at an hour that was not recorded is not looked at [wish1 2, 3]
    ∷ (rebuild_for 5 (9 ∷ 5 ∷ 40000 ∷ 7 ∷ 9 ∷ []) (0 ∷ 1 ∷ 0 ∷ 1 ∷ 0 ∷ []) (g 65541)
    is writes (gap ∷ g 65541 ∷ gap ∷ g 65543 ∷ gap ∷ []))
    -- a start below zero: -1 goes with 65,535 [wish1 6]
    ∷ (rebuild_for 2 (65535 ∷ 3 ∷ []) (1 ∷ 1 ∷ []) (-g 1) is writes (-g 1 ∷ g 3 ∷ []))
    ∷ (rebuild_for 1 (1 ∷ []) (1 ∷ []) (-g 1) is refusal 15 0)
    -- nothing recorded: gaps, whatever the start [wish1 5]
    ∷ (rebuild_for 2 (7 ∷ 8 ∷ []) (0 ∷ 0 ∷ []) (g 2000003) is writes (gap ∷ gap ∷ []))
    -- the start is the first weight, so 2 is told of it too; a weight that leaves the range and comes back [wish1 6]
    ∷ (rebuild_for 2 (9 ∷ 16961 ∷ []) (0 ∷ 1 ∷ []) (g 1000001) is refusal 2 1)
    ∷ (rebuild_for 3 (16960 ∷ 16961 ∷ 16960 ∷ []) (1 ∷ 1 ∷ 1 ∷ []) (g 1000000) is refusal 2 1)
    -- a flag that is neither 0 nor 1, at the least such hour; one beyond n is not looked at [wish1 6]
    ∷ (rebuild_for 3 (5 ∷ 5 ∷ 5 ∷ []) (1 ∷ 255 ∷ 2 ∷ []) (g 5) is refusal 14 1)
    ∷ (rebuild_for 1 (5 ∷ 5 ∷ []) (1 ∷ 2 ∷ []) (g 5) is writes (g 5 ∷ []))
    ∷ []

-- The hours 0 to 47 hold 0, 1, .., 47. The codes of the 24 pairs of their table are 1, those of the 8 pairs of gaps 4.
abbrev pub rising : List ℤ
rising = (table_from 48 (map g (up_from 0 48))).coefficients

-- So do hours 0 to 23 of 26, and the two of day 1 are gaps: 12 codes 1 and 4 codes 4.
abbrev one_day : List ℤ
one_day = (table_from 26 (map g (up_from 0 24) ++ gap ∷ gap ∷ [])).coefficients

-- The change of a day in grams.
abbrev changes : ℤ → Reply
changes grams = says (taken (grams ∷ []))

abbrev pub day_changes : List Case
day_changes =
    -- a reading on day 0, none on day 1, and two on day 2: the latest before day 2 is that of day 0 [wish2 2, 3]
    (day_for 50 (g 5 ∷ replicate 47 gap ++ g 9 ∷ g 7 ∷ []) 0 is changes (g 0))
    ∷ (day_for 50 (g 5 ∷ replicate 47 gap ++ g 9 ∷ g 7 ∷ []) 1 is says (taken []))
    ∷ (day_for 50 (g 5 ∷ replicate 47 gap ++ g 9 ∷ g 7 ∷ []) 2 is changes (g 2))
    -- none before day 1: its last minus its own first [wish2 2]
    ∷ (day_for 26 (replicate 24 gap ++ g 7 ∷ g 4 ∷ []) 1 is changes (-g 3))
    -- the hours before are examined, with the walk to their first reading: pair 32 has hours 0 and 1 [wish2 6, 7]
    ∷ (day_in 48 rising (replicate 24 1 ++ replicate 8 4) 1 is changes (g 24))
    ∷ (day_in 48 rising (9 ∷ replicate 23 1 ++ replicate 8 4) 1 is refusal 4 32)
    -- not for a day without a reading, nor a pair of them that is on no walk [wish2 6]
    ∷ (day_in 26 one_day (9 ∷ replicate 11 1 ++ replicate 4 4) 1 is says (taken []))
    ∷ (day_in 48 rising (1 ∷ 9 ∷ replicate 22 1 ++ replicate 8 4) 1 is changes (g 24))
    ∷ []
