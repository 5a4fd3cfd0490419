-- What document 01 says of each case of an answer: the refusal's number and place, or the answer's values. Assumes
-- nothing.
--
--   number_of why, place_of why   the number and the place of a refusal
--   held low high                 the range with this low and this high, present
--   low_of r, high_of r           the low and the high of a range, 2,000,003 where it is empty
--   finished_as, stopped_as, opened_as, window_as   what is answered where nothing is refused, by its parts
--   Said                        an answer in document 01's numbers; `said_of..` gives it for each type of answer
--   refused why, taken zs       a refusal as `Said`; a call that is taken, with its values
--   values_of answer             the values of a finished column without its count; none where there is no reading
use Rattle.std.specs.Prelude.{List, [], ◌∷◌, ◌++◌, ℕ, ℤ, pos, Option, None, Some, Result, Ok, Err}
use Rattle.words.specs.Constants.{gap}
use Rattle.words.specs.declared.Range.{Range}
use Rattle.words.specs.declared.Refusal.{Refusal}
use Rattle.words.specs.declared.Refusal.TheVariants.{BadHours, BadReading, ShortBuffer, Unsound, BadWindow, BadColumn}
use Rattle.words.specs.declared.Refusal.TheVariants.{TooDeep, CutShort, BadVersion, BadLength, BytesAfter, BadLine}
use Rattle.words.specs.declared.Refusal.TheVariants.{BadPlace, BadFlag, BadStart}
use Rattle.words.specs.declared.Summary.{Summary}
use Rattle.words.specs.declared.Finished.{Finished}
use Rattle.words.specs.declared.Stopped.{Stopped}
use Rattle.words.specs.declared.Column.{Column}
use Rattle.words.specs.declared.Opening.{Opening}
use Rattle.words.specs.declared.Window.{Window}

-- The number of a refusal. [refusals 1, 2, 3, 4, 5, 6, 7, 8, 9, 10, 11, 12, 13] [wish1 6]
abbrev pub number_of : Refusal → ℕ
number_of BadHours = 1
number_of (BadReading h) = 2
number_of ShortBuffer = 3
number_of (Unsound i) = 4
number_of BadWindow = 5
number_of BadColumn = 6
number_of TooDeep = 7
number_of CutShort = 8
number_of BadVersion = 9
number_of BadLength = 10
number_of BytesAfter = 11
number_of (BadLine line) = 12
number_of BadPlace = 13
number_of (BadFlag h) = 14
number_of BadStart = 15

-- Its place: an hour, a node's number, a line counted from 1, else 0.
-- [refusals 1, 2, 3, 4, 5, 6, 7, 8, 9, 10, 11, 12, 13] [wish1 6]
abbrev pub place_of : Refusal → ℕ
place_of BadHours = 0
place_of (BadReading h) = h.0
place_of ShortBuffer = 0
place_of (Unsound i) = i.0
place_of BadWindow = 0
place_of BadColumn = 0
place_of TooDeep = 0
place_of CutShort = 0
place_of BadVersion = 0
place_of BadLength = 0
place_of BytesAfter = 0
place_of (BadLine line) = line
place_of BadPlace = 0
place_of (BadFlag h) = h.0
place_of BadStart = 0

-- A range of some readings; that of none is `None`. [hours 11, 12]
abbrev pub held : (low high : ℤ) → Option Range
held low high = Some (record { low = low; high = high })

-- Low and high of a range, both 2,000,003 if it is empty. [table 2]
abbrev pub low_of : Option Range → ℤ
low_of None = gap
low_of (Some r) = r.low

abbrev pub high_of : Option Range → ℤ
high_of None = gap
high_of (Some r) = r.high

-- What is answered where nothing is refused: a finished column, a stopped one, an opened record, a window's line.
abbrev pub finished_as : (answer : Option Summary) (count : ℕ) → Result Finished Refusal
finished_as answer count = Ok (record { answer = answer; count = count })

abbrev pub stopped_as : (outer inner : Option Range) (count : ℕ) → Result Stopped Refusal
stopped_as outer inner count = Ok (record { outer = outer; inner = inner; count = count })

abbrev pub opened_as : (hours places : ℕ) → Result Opening Refusal
opened_as hours places = Ok (record { hours = hours; places = places })

abbrev pub window_as : (a b w : ℕ) → Option Window
window_as a b w = Some (record { a = a; b = b; w = w })

-- An answer in document 01's numbers: the refusal's number, 0 where the call is taken; its place; the values.
-- [forms 14]
pub record Said : Type 0 where
  pub number : ℕ
  pub place : ℕ
  pub values : List ℤ

-- A refusal returns number and place. [refusals 14]
abbrev pub refused : Refusal → Said
refused why = record { number = number_of why; place = place_of why; values = [] }

abbrev pub taken : List ℤ → Said
taken zs = record { number = 0; place = 0; values = zs }

-- First hour and reading, last hour and reading, low, high; nothing where there is no reading. [columns 13, 14]
abbrev pub values_of : Option Summary → List ℤ
values_of None = []
values_of (Some summary) =
    pos summary.first.hour.0 ∷ summary.first.grams
    ∷ pos summary.last.hour.0 ∷ summary.last.grams
    ∷ summary.low ∷ summary.high
    ∷ []

abbrev pub said_of_finished : Result Finished Refusal → Said
said_of_finished (Ok done) = taken (values_of done.answer ++ pos done.count ∷ [])
said_of_finished (Err why) = refused why

abbrev pub said_of_stopped : Result Stopped Refusal → Said
said_of_stopped (Ok done) =
    taken (low_of done.outer ∷ high_of done.outer ∷ low_of done.inner ∷ high_of done.inner ∷ pos done.count ∷ [])
said_of_stopped (Err why) = refused why

abbrev pub said_of_taking : Result Unit Refusal → Said
said_of_taking (Ok u) = taken []
said_of_taking (Err why) = refused why

abbrev pub said_of_edges : Result Column Refusal → Said
said_of_edges (Ok x) = taken (pos x.from.0 ∷ pos x.upto.0 ∷ [])
said_of_edges (Err why) = refused why

abbrev pub said_of_day_change : Result (Option ℤ) Refusal → Said
said_of_day_change (Ok None) = taken []
said_of_day_change (Ok (Some z)) = taken (z ∷ [])
said_of_day_change (Err why) = refused why

abbrev pub said_of_writing : Result ℕ Refusal → Said
said_of_writing (Ok size) = taken (pos size ∷ [])
said_of_writing (Err why) = refused why

abbrev pub said_of_unpacking : Result ℕ Refusal → Said
said_of_unpacking (Ok n) = taken (pos n ∷ [])
said_of_unpacking (Err why) = refused why

abbrev pub said_of_opening : Result Opening Refusal → Said
said_of_opening (Ok opened) = taken (pos opened.hours ∷ pos opened.places ∷ [])
said_of_opening (Err why) = refused why

abbrev pub said_of_asking : Result ℤ Refusal → Said
said_of_asking (Ok z) = taken (z ∷ [])
said_of_asking (Err why) = refused why
