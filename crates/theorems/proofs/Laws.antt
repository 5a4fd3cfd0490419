-- What is proved of the definitions by themselves: what P is, how nodes are numbered, which nodes are examined and
-- what the examination of a table says, how three bytes hold a number and a record a table, how edges are rounded, what
-- a column without an hour has, how far a count goes, what a look through hours gives, and how numbers are printed.
-- Assumes nothing.
use Rattle.kit.proofs.{◌≡◌, Bool, true, false, List, [], ◌∷◌, ◌++◌, map, foldr, ◌↔◌, ℕ, ◌+◌, ◌-◌, ◌*◌, ◌/◌, ◌^◌, ◌≤◌}
use Rattle.kit.proofs.{◌<◌, ℤ, length, get_or, take, Option, None}
use Rattle.words.specs.declared.{Summary.Summary, Timestamp.Timestamp, Column.Column}
use Rattle.words.specs.{largest_hours}
use Rattle.om3.specs.Document.{every, Series, levels, P, Node, InTree, number, left, right, hours, node_of, Table}
use Rattle.om3.specs.Document.{table_of, HasTable, turned_back, passes, in_order, table_nodes, sound_table, table_short}
use Rattle.om3.specs.Document.{examine_table, Bytes, InThree, three_bytes, signed_from, record_size, record_of}
use Rattle.om3.specs.Document.{hours_in, table_in, opening_checks, Openable, asking_view, asking, ceil, count_at, outer}
use Rattle.om3.specs.Document.{inner_nodes, inner, inside_nodes, answer, count, joined, ascii, zero_digit, is_digit}
use Rattle.om3.specs.Document.{value_of, decimal, look_through}
use Rattle.laws.proofs as laws

-- P is at least n, for up to 16,384 hours, at least 2, and the smallest such power of two.
P-at-least-n : (n : ℕ) → n ≤ largest_hours → n ≤ P n
P-at-least-n = laws.Levels.n≤P

P-at-least-2 : (n : ℕ) → 2 ≤ P n
P-at-least-2 = laws.Levels.2≤P

P-smallest : (n j : ℕ) → n ≤ 2 ^ j → 2 ≤ 2 ^ j → P n ≤ 2 ^ j
P-smallest = laws.Levels.P-smallest

-- l is from 1 to 14.
levels-from-1 : (n : ℕ) → 1 ≤ levels n
levels-from-1 = laws.Levels.levels-some

levels-to-14 : (n : ℕ) → levels n ≤ 14
levels-to-14 = laws.Levels.levels-most

-- The halves of node i have the numbers 2i and 2i + 1, and cover its hours, the left half's first.
number-left : (v : Node) → (number (left v)).0 ≡ 2 * (number v).0
number-left = laws.Nodes.number-left

number-right : (v : Node) → (number (right v)).0 ≡ 2 * (number v).0 + 1
number-right = laws.Nodes.number-right

hours-halves : (l : ℕ) (v : Node) → v.level < l → hours l v ≡ hours l (left v) ++ hours l (right v)
hours-halves = laws.Nodes.hours-halves

-- A node is found by its number.
node-of-number : (l : ℕ) (v : Node) → InTree l v → node_of l (number v) ≡ v
node-of-number = laws.Nodes.node-of-number

-- For 1 to 16,384 hours and with room, a table is sound exactly if some series of n hours has it.
sound-exactly : (n : ℕ) → 1 ≤ n → n ≤ largest_hours → (t : Table) → table_short n t ≡ false
    → (sound_table (levels n) n t ≡ true) ↔ ((s : List ℤ) × Series n s × HasTable n s t)
sound-exactly = laws.Demand2.sound-exactly

-- The table of a series, turned back, is the series.
made-turned : (n : ℕ) (s : List ℤ) → Series n s → turned_back (levels n) (table_of (levels n) n s) n ≡ s
made-turned = laws.Demand2.made-turned

-- The list of examination has the nodes of levels 0 to l − 1, and no others: a test holds of each of these nodes
-- exactly if it holds of the whole list.
table-nodes : (l : ℕ) (p : Node → Bool)
    → ((v : Node) → InTree l v → v.level < l → p v ≡ true) ↔ (every p (table_nodes l) ≡ true)
table-nodes l p = (laws.NodeLists.table-from-each l p, laws.NodeLists.each-in-table l p)

-- The examination of a whole table passes exactly if the table is sound.
examine-sound : (n : ℕ) (t : Table) → (examine_table n t ≡ passes) ↔ (sound_table (levels n) n t ≡ true)
examine-sound n = laws.Examined.examine-sound (levels n) n

-- A number has three bytes.
three-size : (z : ℤ) → length (three_bytes z) ≡ 3
three-size = laws.ThreeBytes.three-size

-- A number from −8,388,608 to 8,388,607 is read back from them.
three_back : (z : ℤ) → InThree z → signed_from (three_bytes z) ≡ z
three_back = laws.ThreeBytes.three_back

-- What is read from three bytes is such a number.
three-range : (bs : List ℕ) → Bytes bs → length bs ≡ 3 → InThree (signed_from bs)
three-range = laws.ThreeBytes.three-range

-- Three bytes that were read are written again as they were.
three-forth : (bs : List ℕ) → Bytes bs → length bs ≡ 3 → three_bytes (signed_from bs) ≡ bs
three-forth = laws.ThreeBytes.three-forth

-- Different three bytes spell different numbers, and different numbers have different bytes.
three-one : (bs bs' : List ℕ) → Bytes bs → length bs ≡ 3 → Bytes bs' → length bs' ≡ 3
    → signed_from bs ≡ signed_from bs' → bs ≡ bs'
three-one = laws.ThreeBytes.three-one

three-apart : (y z : ℤ) → InThree y → InThree z → three_bytes y ≡ three_bytes z → y ≡ z
three-apart = laws.ThreeBytes.three-apart

-- The record of a table with its places has 7 + 3P + P/2 bytes.
record-size : (n : ℕ) (t : Table) → table_short n t ≡ false → length (record_of n t) ≡ record_size n
record-size = laws.Records.record-size

-- The table is read back from it, if it is sound.
record-back : (n : ℕ) (t : Table) → n ≤ largest_hours → table_short n t ≡ false → sound_table (levels n) n t ≡ true
    → table_in (record_of n t) ≡ record { coefficients = take (P n) t.coefficients; codes = take (P n / 2) t.codes }
record-back = laws.RecordsTaken.record-back

-- A record is bytes, if the codes are.
record-range : (n : ℕ) (t : Table) → Bytes t.codes → Bytes (record_of n t)
record-range = laws.Records.record-range

-- A record that opening takes is that of the table that it states.
record-forth : (r : List ℕ) → Bytes r → in_order (opening_checks r) ≡ passes → record_of (hours_in r) (table_in r) ≡ r
record-forth = laws.RecordsForth.record-forth

-- One table of n hours has one record.
one-record : (r q : List ℕ) → Bytes r → Bytes q → in_order (opening_checks r) ≡ passes
    → in_order (opening_checks q) ≡ passes
    → hours_in r ≡ hours_in q → table_in r ≡ table_in q → r ≡ q
one-record = laws.RecordsForth.record-one

-- Opening takes the bytes whose fields fit one another and their length, and no others.
opening-exactly : (r : List ℕ) → (in_order (opening_checks r) ≡ passes) ↔ Openable r
opening-exactly = laws.RecordsOpened.opening-exactly

-- A record that opening takes reaches each of its P places, so asking it is asking its view.
asking-opened : (r : List ℕ) (p : ℕ) → in_order (opening_checks r) ≡ passes
    → asking r p ≡ asking_view r (P (hours_in r)) p
asking-opened = laws.RecordsOpened.asking-opened

-- Edges are rounded up: `ceil m w` is the least number that times w is at least m.
ceil-reaches : (m w : ℕ) → 1 ≤ w → m ≤ ceil m w * w
ceil-reaches = laws.Arithmetic.ceil-reaches

ceil-least : (m w : ℕ) → 1 ≤ w → ceil m w * w < m + w
ceil-least = laws.Arithmetic.ceil-least

-- A column without an hour has neither range, no reading and count 0, stopped or finished.
module _ (l : ℕ) (t : Table) (x : Column) (none : x.upto.0 ≤ x.from.0) where
  no-hour-outer : (d : ℕ) → outer l t x d ≡ None
  no-hour-outer = laws.WithoutHours.none-outer l t x none

  no-hour-inner : (d : ℕ) → inner l t x d ≡ None
  no-hour-inner = laws.WithoutHours.none-inner l t x none

  no-hour-answer : answer l t x ≡ None
  no-hour-answer = laws.WithoutHours.none-answer l t x none

  no-hour-count : (d : ℕ) → count_at l t x d ≡ 0
  no-hour-count = laws.WithoutHours.none-count l t x none

  no-hour-finished-count : count l t x ≡ 0
  no-hour-finished-count = laws.WithoutHours.none-finished-count l t x none

-- The count at a depth d from 1 to l is at most 4·d − 1, in every table.
count-at-most : (l : ℕ) (t : Table) (x : Column) (d : ℕ) → d ≤ l → 1 ≤ d → count_at l t x d ≤ 4 * d - 1
count-at-most = laws.Counted.count_most

-- The non-empty inside visited nodes are the nodes of the inner range at depth l.
inside-inner : (l : ℕ) (t : Table) (x : Column) → inside_nodes l t x ≡ inner_nodes l t x l
inside-inner = laws.KeptNodes.inside-inner

-- What a look through hours gives is the answers of the single hours, joined one after the other.
look-through-joined : (n : ℕ) (s : List ℤ) (hs : List Timestamp)
    → look_through n s hs ≡ foldr {B = Option Summary} joined None (map (λ h. look_through n s (h ∷ [])) hs)
look-through-joined = laws.LookedThrough.look-through-joined

-- A number is printed in digits which, read as a numeral is read, have its value. The first of them is not 0 but for 0
-- itself, which is one digit.
decimal-digits : (m : ℕ) → every is_digit (decimal m) ≡ true
decimal-digits = laws.Arithmetic.decimal-digits

decimal-back : (m : ℕ) → value_of (decimal m) ≡ m
decimal-back = laws.Arithmetic.decimal-back

decimal-first : (m : ℕ) → 1 ≤ m → zero_digit < get_or (decimal m) 0 0
decimal-first = laws.Arithmetic.decimal-first

decimal-zero : decimal 0 ≡ ascii "0"
decimal-zero = laws.Arithmetic.decimal-zero
