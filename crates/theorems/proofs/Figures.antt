-- Document 01's numbers, those of documents 003 and 004, and two causes at a time, as the definitions answer them.
-- Assumes nothing.
use Prim.Native.Nat.{ℕ}
use Rattle.om3.specs.Document.{Answered, numbers, unmarked, outside, further, printing, two_causes, old_logs}
use Rattle.om3.specs.Document.{day_changes}
use Rattle.om3.proofs.Numbers.{numbers-hold, unmarked-hold, outside-hold, further-hold, printing-holds}
use Rattle.om3.proofs.{Causes.two-causes-hold, LaterNumbers.old-logs-hold, LaterNumbers.day-changes-hold}

-- Document 01's numbers 1 to 10, whatever codes 9 and 10 leave open; its numbers 11 and 12, and the record's sizes;
-- documents 003 and 004; and where document 01 leaves room or an error comes easily.
marked-numbers : (c e : ℕ) → Answered (numbers c e)
marked-numbers = numbers-hold

unmarked-numbers : Answered unmarked
unmarked-numbers = unmarked-hold

outside-numbers : Answered outside
outside-numbers = outside-hold

further-numbers : Answered further
further-numbers = further-hold

-- Document 01's example of the printer, byte by byte, and texts where it leaves room.
printed-texts : Answered printing
printed-texts = printing-holds

-- Where two causes stand together, the one whose turn is first: for each call and each two neighbours of its order that
-- can.
two-causes : Answered two_causes
two-causes = two-causes-hold

-- Logs of the old scales, where document 02 leaves room or an error comes easily.
old-logs : Answered old_logs
old-logs = old-logs-hold

-- Days that add up, likewise.
day-changes : Answered day_changes
day-changes = day-changes-hold
