-- Document 01, "Numbers to hold to": questions with the answers that document 01 gives. That the definitions answer
-- so is proved in proofs/Numbers. Assumes nothing.
--
--   Case, Answered    a question with its answer, `q is r`; each question of a list is answered so
--   g m, -g m         grams, and grams below zero; refusal, a refusal's number and place as a reply
--   text prints lines a text and what is printed for it
--   seven             the printer's seven hours
--   numbers c e       the numbers marked [P], 1 to 10; c and e are the codes that 9 and 10 leave open
--   unmarked          numbers 11 and 12, and the sizes of the house record
--   outside           worked examples of documents 003 and 004
--   eight             the coefficients of eight hours, fourteen the bytes of a record, and damaged one
--   morning, noon     answers of some of the seven hours
--   further           where document 01 leaves room or an error comes easily
--   printing          texts and what is printed for them
use Rattle.std.specs.Prelude.{◌≡◌, List, [], ◌∷◌, ◌++◌, map, ℕ, ◌-◌, ◌*◌, ℤ, pos, neg_ℤ, replicate, None, Option, Some}
use Rattle.words.specs.declared.Summary.{Summary}
use Prim.Native.String.{String}
use Rattle.words.specs.Constants.{gap}
use Rattle.words.specs.Said.{taken}
use Rattle.words.specs.declared.Reading.{Reading}
use Rattle.om3.specs.Series.{hour}
use Rattle.om3.specs.Text.{ascii}
use Rattle.om3.specs.Questions.{Question, Reply, reply_to, table_from, table_for, making_for, turning_for, finished_for}
use Rattle.om3.specs.Questions.{stopped_for, day_for, finished_in, edges_for, level_for, size_for, record_for}
use Rattle.om3.specs.Questions.{writing_for, reading_for, open_for, ask_for, join_for, print_for, table, says, bytes}

pub record Case : Type 0 where
  pub question : Question
  pub reply : Reply

-- Each question of a list is replied to as the list says.
abbrev pub Answered : List Case → Type 0
Answered cs = map (λ (c : Case). reply_to c.question) cs ≡ map (λ (c : Case). c.reply) cs

infix 20 ◌is◌
abbrev pub ◌is◌ : Question → Reply → Case
◌is◌ question reply = record { question = question; reply = reply }

-- Grams, and grams below zero.
abbrev pub g : ℕ → ℤ
g m = pos m

abbrev pub -g : ℕ → ℤ
-g m = neg_ℤ (pos m)

-- A column as the printer prints it, with the hours of its first and its last reading.
abbrev shown : (first_hour last_hour first last low high count : ℕ) → Reply
shown first_hour last_hour first last low high count =
    says (taken (pos first_hour ∷ g first ∷ pos last_hour ∷ g last ∷ g low ∷ g high ∷ pos count ∷ []))

-- A column at a depth, with both ranges; without the inner one.
abbrev ranges : (outer_low outer_high inner_low inner_high count : ℕ) → Reply
ranges outer_low outer_high inner_low inner_high count =
    says (taken (g outer_low ∷ g outer_high ∷ g inner_low ∷ g inner_high ∷ pos count ∷ []))

abbrev outer_alone : (outer_low outer_high count : ℕ) → Reply
outer_alone outer_low outer_high count = says (taken (g outer_low ∷ g outer_high ∷ gap ∷ gap ∷ pos count ∷ []))

abbrev pub refusal : (number place : ℕ) → Reply
refusal number place = says (record { number = number; place = place; values = [] })

-- The hours from a up to, not including, b.
abbrev hours_of : (a b : ℕ) → Reply
hours_of a b = says (taken (pos a ∷ pos b ∷ []))

-- The printer's seven hours. [printer 9]
abbrev pub seven : List ℤ
seven = g 41200 ∷ g 41350 ∷ gap ∷ g 40900 ∷ g 32760 ∷ g 32790 ∷ gap ∷ []

-- Numbers 1 to 10. [numbers 1, 2, 3, 4, 5, 6, 7, 8, 9, 10, 11, 12, 13] [statements 4]
abbrev pub numbers : (c e : ℕ) → List Case
numbers c e =
    -- 1
    (table_for 1 (g 500 ∷ []) is table (g 500 ∷ g 500 ∷ []) (2 ∷ []))
    -- 2
    ∷ (table_for 2 (g 7 ∷ g 7 ∷ []) is table (g 7 ∷ g 7 ∷ []) (0 ∷ []))
    ∷ (table_for 2 (g 7 ∷ g 9 ∷ []) is table (g 7 ∷ g 9 ∷ []) (1 ∷ []))
    ∷ (table_for 2 (g 9 ∷ g 7 ∷ []) is table (g 7 ∷ g 9 ∷ []) (0 ∷ []))
    -- 3
    ∷ (table_for 3 (gap ∷ gap ∷ gap ∷ []) is
    table (g 2000003 ∷ g 2000003 ∷ g 2000003 ∷ g 2000003 ∷ []) (4 ∷ 4 ∷ []))
    -- 4
    ∷ (table_for 7 seven is
    table (g 32760 ∷ g 41350 ∷ g 8140 ∷ g 8560 ∷ g 300 ∷ g 450 ∷ g 2000001 ∷ g 2000001 ∷ []) (1 ∷ 3 ∷ 1 ∷ 4 ∷ []))
    -- 5
    ∷ (finished_for 7 seven 0 7 3 0 is shown 0 1 41200 41350 41200 41350 9)
    ∷ (finished_for 7 seven 0 7 3 1 is shown 3 4 40900 32760 32760 40900 (4 * 3 - 1))
    ∷ (finished_for 7 seven 0 7 3 2 is shown 5 5 32790 32790 32790 32790 7)
    -- 6
    ∷ (stopped_for 7 seven 0 7 3 0 0 is outer_alone 32760 41350 1)
    ∷ (stopped_for 7 seven 0 7 3 0 1 is outer_alone 40900 41350 3)
    ∷ (stopped_for 7 seven 0 7 3 0 2 is ranges 40900 41350 41200 41350 5)
    ∷ (stopped_for 7 seven 0 7 3 0 3 is ranges 41200 41350 41200 41350 7)
    -- 7
    ∷ (table_for 4 (-g 1000000 ∷ -g 1000000 ∷ g 1000000 ∷ g 1000000 ∷ []) is
    table (-g 1000000 ∷ g 1000000 ∷ -g 2000000 ∷ -g 2000000 ∷ []) (0 ∷ 0 ∷ []))
    -- 8
    ∷ (edges_for 2 0 2 4 1 is hours_of 1 1)
    ∷ (edges_for 2 0 2 4 3 is hours_of 2 2)
    ∷ (finished_for 2 (g 7 ∷ g 9 ∷ []) 0 2 4 1 is says (taken (pos 0 ∷ [])))
    ∷ (stopped_for 2 (g 7 ∷ g 9 ∷ []) 0 2 4 3 0 is says (taken (gap ∷ gap ∷ gap ∷ gap ∷ pos 0 ∷ [])))
    -- 9
    ∷ (turning_for 2 (g 5 ∷ g 4 ∷ []) (c ∷ []) is refusal 4 0)
    ∷ (turning_for 2 (g 5 ∷ g 5 ∷ []) (1 ∷ []) is refusal 4 1)
    -- 10
    ∷ (turning_for 4 (g 10 ∷ g 20 ∷ -g 15 ∷ g 0 ∷ []) (c ∷ e ∷ []) is refusal 4 1)
    ∷ []

-- Day 0 runs from 40000 to 40600, day 1 is 41000, 41100.
abbrev days : List ℤ
days = g 40000 ∷ replicate 22 gap ++ g 40600 ∷ g 41000 ∷ g 41100 ∷ []

-- Numbers 11 and 12, and the record's sizes. [numbers 14, 15, 16, 17, 18] [record 7]
abbrev pub unmarked : List Case
unmarked =
    -- 11
    (making_for 3 (g 0 ∷ -g 1000000 ∷ g 1000001 ∷ []) is refusal 2 2)
    ∷ (edges_for 16385 0 1 1 0 is refusal 1 0)
    ∷ (stopped_for 7 seven 0 7 3 0 3 is ranges 41200 41350 41200 41350 7)
    ∷ (stopped_for 7 seven 0 7 3 0 4 is refusal 7 0)
    ∷ (edges_for 7 0 7 4096 4095 is hours_of 7 7)
    ∷ (edges_for 7 0 7 4097 0 is refusal 6 0)
    -- 12, as document 02's second wish has it [wish2 5]
    ∷ (day_for 26 days 0 is says (taken (g 600 ∷ [])))
    ∷ (day_for 26 days 1 is says (taken (g 500 ∷ [])))
    ∷ (day_for 26 days 2 is refusal 5 0)
    -- the house record
    ∷ (size_for 2 is says (taken (pos 10 ∷ pos 14 ∷ [])))
    ∷ (size_for 16384 is says (taken (pos 57347 ∷ pos 57351 ∷ [])))
    ∷ []

-- Document 003's Figure 3, and document 004's cut of 64 hours in three columns. [columns 3]
abbrev pub outside : List Case
outside =
    (table_for 4 (g 7 ∷ g 8 ∷ g 10 ∷ g 6 ∷ []) is table (g 6 ∷ g 10 ∷ g 1 ∷ -g 2 ∷ []) (1 ∷ 0 ∷ []))
    ∷ (table_for 4 (g 4 ∷ -g 3 ∷ g 0 ∷ g 1 ∷ []) is table (-g 3 ∷ g 4 ∷ -g 3 ∷ g 3 ∷ []) (0 ∷ 1 ∷ []))
    ∷ (edges_for 64 0 64 3 0 is hours_of 0 22)
    ∷ (edges_for 64 0 64 3 1 is hours_of 22 43)
    ∷ (edges_for 64 0 64 3 2 is hours_of 43 64)
    ∷ []

-- Hours that hold 1, 2, .., 8, as coefficients; their codes are 1, 1, 1, 1.
abbrev pub eight : List ℤ
eight = g 1 ∷ g 8 ∷ -g 4 ∷ -g 4 ∷ -g 2 ∷ -g 2 ∷ -g 2 ∷ -g 2 ∷ []

-- One reading, at hour 12 of 16, as coefficients; its codes are 4, 4, 4, 4, 4, 4, 2, 4.
abbrev late : List ℤ
late =
    g 5 ∷ g 5 ∷ g 2000002 ∷ g 2000002 ∷ gap ∷ gap ∷ g 2000002 ∷ g 2000002 ∷ gap ∷ gap ∷ gap ∷ gap ∷ gap ∷ gap
    ∷ g 2000001 ∷ g 2000001 ∷ []

-- Of the printer's seven hours, the answers of 0 to 2 and of 3 and 4.
abbrev at : (h grams : ℕ) → Reading
at h grams = record { hour = hour h; grams = g grams }

abbrev morning : Option Summary
morning = Some (record { first = at 0 41200; last = at 1 41350; low = g 41200; high = g 41350 })

abbrev noon : Option Summary
noon = Some (record { first = at 3 40900; last = at 4 32760; low = g 32760; high = g 40900 })

-- One hour of −500 grams: 14 bytes.
abbrev pub fourteen : List ℕ
fourteen = 0 ∷ 0 ∷ 0 ∷ 10 ∷ 1 ∷ 0 ∷ 1 ∷ 255 ∷ 254 ∷ 12 ∷ 255 ∷ 254 ∷ 12 ∷ 2 ∷ []

-- The same with the code of two readings, of which the second would be past the series.
abbrev pub damaged : List ℕ
damaged = 0 ∷ 0 ∷ 0 ∷ 10 ∷ 1 ∷ 0 ∷ 1 ∷ 255 ∷ 254 ∷ 12 ∷ 255 ∷ 254 ∷ 12 ∷ 0 ∷ []

-- Examples of our own, and of where document 01 leaves room.
abbrev pub further : List Case
further =
    -- the first hour of a column is a gap: its first reading is a later one [errors 3]
    (finished_for 4 (gap ∷ g 5 ∷ g 6 ∷ g 7 ∷ []) 0 4 1 0 is shown 1 3 5 7 5 7 5)
    -- a column without an hour: no reading, count 0, and the table is not examined [columns 5]
    ∷ (finished_for 4 (gap ∷ g 5 ∷ g 6 ∷ g 7 ∷ []) 1 2 4 1 is says (taken (pos 0 ∷ [])))
    ∷ (finished_in 2 (g 5 ∷ g 4 ∷ []) (0 ∷ []) 0 2 4 1 is says (taken (pos 0 ∷ [])))
    -- all below the left half before the right half: pair 4 before node 3 [sound 6]
    ∷ (turning_for 8 (g 1 ∷ g 8 ∷ -g 4 ∷ -g 4 ∷ -g 2 ∷ -g 2 ∷ gap ∷ -g 2 ∷ []) (9 ∷ 1 ∷ 1 ∷ 1 ∷ []) is refusal 4 4)
    -- one mark alone, and code 2 with low < high, are unsound [sound 3, 4]
    ∷ (turning_for 4 (g 5 ∷ g 5 ∷ g 2000001 ∷ g 0 ∷ []) (0 ∷ 4 ∷ []) is refusal 4 1)
    ∷ (turning_for 2 (g 5 ∷ g 6 ∷ []) (2 ∷ []) is refusal 4 1)
    -- pairs between the two walks are not examined [columns 18]
    ∷ (finished_in 8 eight (1 ∷ 9 ∷ 9 ∷ 1 ∷ []) 0 8 1 0 is shown 0 7 1 8 1 8 7)
    -- a reading at hour 12 of a series of 9 hours is found at its pair [sound 4]
    ∷ (turning_for 9 late (4 ∷ 4 ∷ 4 ∷ 4 ∷ 4 ∷ 4 ∷ 2 ∷ 4 ∷ []) is refusal 4 14)
    -- level 1 of the printer's seven hours; there is no level 2 of details, however much is lent [level 1, 2]
    ∷ (level_for 7 1 (table_from 7 seven).coefficients is says (taken (g 300 ∷ g 450 ∷ g 2000001 ∷ g 2000001 ∷ [])))
    ∷ (level_for 7 2 ((table_from 7 seven).coefficients ++ replicate 8 (g 5)) is says (taken []))
    -- the answers of hours 0 to 2 and of hours 3 and 4 joined; with no reading on one side [columns 19]
    ∷ (join_for morning noon is says (taken (pos 0 ∷ g 41200 ∷ pos 4 ∷ g 32760 ∷ g 32760 ∷ g 41350 ∷ [])))
    ∷ (join_for morning None is says (taken (pos 0 ∷ g 41200 ∷ pos 1 ∷ g 41350 ∷ g 41200 ∷ g 41350 ∷ [])))
    ∷ (join_for None noon is says (taken (pos 3 ∷ g 40900 ∷ pos 4 ∷ g 32760 ∷ g 32760 ∷ g 40900 ∷ [])))
    -- the house record byte by byte [record 1, 2, 3, 4, 5, 6]
    ∷ (record_for 1 (-g 500 ∷ []) is bytes fourteen)
    ∷ (open_for fourteen is says (taken (pos 1 ∷ pos 2 ∷ [])))
    ∷ (open_for (fourteen ++ 0 ∷ []) is refusal 11 0)
    ∷ (open_for (0 ∷ 0 ∷ 0 ∷ 10 ∷ 1 ∷ 0 ∷ 1 ∷ []) is refusal 8 0)
    -- writing examines the table, reading the one that the record states [refusals 18, 19]
    ∷ (writing_for 2 (g 5 ∷ g 4 ∷ []) (0 ∷ []) 14 is refusal 4 0)
    ∷ (writing_for 2 (g 4 ∷ g 5 ∷ []) (0 ∷ []) 14 is says (taken (pos 14 ∷ [])))
    ∷ (reading_for damaged 2 1 is refusal 4 1)
    ∷ (reading_for fourteen 2 1 is says (taken (pos 1 ∷ [])))
    ∷ (ask_for fourteen 1 is says (taken (-g 500 ∷ [])))
    ∷ (ask_for fourteen 2 is refusal 13 0)
    ∷ []

-- What is printed for a text.
infix 20 ◌prints◌
abbrev pub ◌prints◌ : String → String → Case
◌prints◌ text lines = print_for (ascii text) is bytes (ascii lines)

-- Document 01's example, exactly, and texts where it leaves room. [printer 9]
abbrev pub printing : List Case
printing =
    (print_for (ascii "0 7 3\n41200\n41350\n-\n40900\n32760\n32790\n-\n") is
    bytes
    (ascii "column first last low high nodes\n"
    ++ ascii "0 41200 41350 41200 41350 9\n"
    ++ ascii "1 40900 32760 32760 40900 11\n"
    ++ ascii "2 32790 32790 32790 32790 7\n"))
    -- a refusal's number and place; empty input; a line feed alone; the first of two bad lines [printer 4, 5, 7]
    ∷ ("0 7 3\n+1\n--" prints "refused 12 at 2\n")
    ∷ ("" prints "refused 12 at 1\n")
    ∷ ("\n" prints "refused 12 at 1\n")
    -- the last line may lack its line feed; one more makes an empty line [printer 3]
    ∷ ("0 1 1\n-5" prints "column first last low high nodes\n0 -5 -5 -5 -5 3\n")
    ∷ ("0 1 1\n5\n\n" prints "refused 12 at 3\n")
    -- leading zeros are digits, -0 is 0; w > L; no reading [printer 1, 2, 8]
    ∷ ("00000 00001 00002\n-0000000" prints "column first last low high nodes\n0 0 0 0 0 3\n1 - - - - 0\n")
    -- six digits in line 1 and eight in an hour are too many [printer 1, 2]
    ∷ ("000000 1 1\n5" prints "refused 12 at 1\n")
    ∷ ("0 1 1\n-00000005" prints "refused 12 at 2\n")
    -- no hour; 2,000,003 is out of range; no column [printer 5, 6]
    ∷ ("1 0 0" prints "refused 1 at 0\n")
    ∷ ("0 2 1\n5\n2000003" prints "refused 2 at 1\n")
    ∷ ("0 1 0\n5" prints "refused 6 at 0\n")
    ∷ []
