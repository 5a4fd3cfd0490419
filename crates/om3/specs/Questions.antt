-- Questions about the definitions, and what these reply; asked by Numbers, TwoCauses and LaterNumbers. Assumes nothing.
--
--   Question, Reply   what is asked; what is replied
--   table_from n s     the table of n hours that hold s
--   reply_to q         what the definitions reply
use Rattle.std.specs.Prelude.{List, [], ◌∷◌, ℕ, ℤ, pos, length, replicate, Option}
use Rattle.words.specs.declared.Summary.{Summary}
use Rattle.words.specs.Said.{Said, refused, taken, said_of_taking, values_of, said_of_finished, said_of_stopped}
use Rattle.words.specs.Said.{said_of_edges, said_of_day_change, said_of_writing, said_of_unpacking, said_of_opening}
use Rattle.words.specs.Said.{said_of_asking}
use Rattle.om3.specs.Series.{levels}
use Rattle.om3.specs.Table.{Table, lent, table_of}
use Rattle.om3.specs.Checks.{in_order, answer_by}
use Rattle.om3.specs.Calls.{making, turning_back}
use Rattle.om3.specs.Level.{level_stretch, places_of}
use Rattle.om3.specs.Record.{record_length, record_size, record_of}
use Rattle.om3.specs.RecordCalls.{writing, unpacking, opening, asking_view, asking}
use Rattle.om3.specs.{Columns.edges, Stopped.stopped, Finished.finished, Joined.joined, Days.day_change}
use Rattle.om3.specs.{Printed.printed}
use Rattle.om3.specs.OldLog.{rebuilding_checks, rebuilt_series}

pub data Question : Type 0 where
  -- the table of n hours that hold s; what making it answers
  table_for : (n : ℕ) (s : List ℤ) → Question
  making_for : (n : ℕ) (s : List ℤ) → Question
  -- what turning back answers, with room for n hours
  turning_for : (n : ℕ) (coefficients : List ℤ) (codes : List ℕ) → Question
  -- in the table of n hours that hold s: a finished column, a column at depth d, the change of a day
  finished_for : (n : ℕ) (s : List ℤ) (a b w k : ℕ) → Question
  stopped_for : (n : ℕ) (s : List ℤ) (a b w k d : ℕ) → Question
  day_for : (n : ℕ) (s : List ℤ) (d : ℕ) → Question
  -- the same in any table
  finished_in : (n : ℕ) (coefficients : List ℤ) (codes : List ℕ) (a b w k : ℕ) → Question
  stopped_in : (n : ℕ) (coefficients : List ℤ) (codes : List ℕ) (a b w k d : ℕ) → Question
  day_in : (n : ℕ) (coefficients : List ℤ) (codes : List ℕ) (d : ℕ) → Question
  -- two answers joined
  join_for : (left right : Option Summary) → Question
  -- the edges of a column
  edges_for : (n a b w k : ℕ) → Question
  -- the details of level j of a table
  level_for : (n j : ℕ) (coefficients : List ℤ) → Question
  -- the record's length field and its size
  size_for : (n : ℕ) → Question
  -- the record of the table of n hours that hold s
  record_for : (n : ℕ) (s : List ℤ) → Question
  -- what writing a table answers, with so many bytes lent; what reading bytes answers, with so many coefficients and
  -- codes lent
  writing_for : (n : ℕ) (coefficients : List ℤ) (codes : List ℕ) (size : ℕ) → Question
  reading_for : (bytes : List ℕ) (coefficients codes : ℕ) → Question
  -- what opening bytes answers; asking them for a coefficient; asking a view of bytes and of P = places
  open_for : (bytes : List ℕ) → Question
  ask_for : (bytes : List ℕ) (p : ℕ) → Question
  view_for : (bytes : List ℕ) (places p : ℕ) → Question
  -- what is printed for a text
  print_for : (text : List ℕ) → Question
  -- what rebuilding an old log answers, with room for n hours, and what it writes there
  rebuild_for : (n : ℕ) (counts flags : List ℕ) (start : ℤ) → Question

pub data Reply : Type 0 where
  table : List ℤ → List ℕ → Reply
  says : Said → Reply
  bytes : List ℕ → Reply

abbrev pub table_from : ℕ → List ℤ → Table
table_from n s = table_of (levels n) n s

-- Room lent for so many coefficients and codes.
abbrev room : (coefficients codes : ℕ) → Table
room cs ks = lent (replicate cs (pos 0)) (replicate ks 0)

-- The reply by the definitions.
abbrev pub reply_to : Question → Reply
reply_to (table_for n s) = table (table_from n s).coefficients (table_from n s).codes
reply_to (making_for n s) = says (said_of_taking (making n s (table_from n s)))
reply_to (turning_for n cs ks) = says (said_of_taking (turning_back n (lent cs ks) n))
reply_to (finished_for n s a b w k) = says (said_of_finished (finished n (table_from n s) a b w k))
reply_to (stopped_for n s a b w k d) = says (said_of_stopped (stopped n (table_from n s) a b w k d))
reply_to (day_for n s d) = says (said_of_day_change (day_change n (table_from n s) d))
reply_to (finished_in n cs ks a b w k) = says (said_of_finished (finished n (lent cs ks) a b w k))
reply_to (stopped_in n cs ks a b w k d) = says (said_of_stopped (stopped n (lent cs ks) a b w k d))
reply_to (day_in n cs ks d) = says (said_of_day_change (day_change n (lent cs ks) d))
reply_to (join_for left right) = says (taken (values_of (joined left right)))
reply_to (level_for n j cs) = says (taken (places_of (level_stretch n j (length cs)) cs))
reply_to (record_for n s) = bytes (record_of n (table_from n s))
reply_to (writing_for n cs ks size) = says (said_of_writing (writing n (lent cs ks) size))
reply_to (reading_for r cs ks) = says (said_of_unpacking (unpacking r (room cs ks)))
reply_to (open_for r) = says (said_of_opening (opening r))
reply_to (ask_for r p) = says (said_of_asking (asking r p))
reply_to (view_for r places p) = says (said_of_asking (asking_view r places p))
reply_to (print_for text) = bytes (printed text)
reply_to (rebuild_for n counts flags start) =
    says
    (answer_by refused (in_order (rebuilding_checks n counts flags start n))
    (taken (rebuilt_series n counts flags start)))
reply_to (edges_for n a b w k) = says (said_of_edges (edges n a b w k))
reply_to (size_for n) = says (taken (pos (record_length n) ∷ pos (record_size n) ∷ []))
