-- The printer's calls one after the other: beginning, reading piece after piece, closing, deciding, and printing piece
-- after piece. Assumes nothing.
--
--   ReadAll pieces p q         reading one piece after the other goes from the progress p to q
--   Written d t from text      this is printed at once from a column on, into some buffer, and written
--   WrittenFrom d t from texts these texts are, from that column on to beyond the last that there can be
--   Prints pieces              what is written for these pieces, whatever the lent buffers held
use Rattle.std.specs.Prelude.{◌≡◌, ℕ, ◌+◌, ◌/◌, ◌≤◌, ℤ, length, take, Result}
use Rattle.words.specs.declared.Refusal.{Refusal}
use mathlib.Core.List.{List, [], ◌∷◌, flatten}
use Rattle.words.specs.Constants.{largest_hours, most_columns}
use Rattle.om3.specs.Table.{Table, lent}
use Rattle.om3.specs.Printed.{printed}
use Rattle.parsing.specs.Parsing.{kept_bytes, Progress, progress, begun, read_on, closed}
use Rattle.putting.specs.Putting.{PutsShort}
use Rattle.printing.specs.declared.Drawing.{Drawing}
use Rattle.printing.specs.Printing.{columns_at_once, room, Decided, piece}

abbrev pub ReadAll : List (List ℕ) → Progress → Progress → Type 0
ReadAll [] p q = q ≡ p
ReadAll (piece ∷ pieces) p q = (m : Progress) × (m ≡ read_on p piece) × ReadAll pieces m q

-- The text is as much of the buffer as printing tells.
pub record Written (d : Result Drawing Refusal) (t : Table) (from : ℕ) (text : List ℕ) : Type 0 where
  pub before : List ℕ
  pub after : List ℕ
  pub size : ℕ
  pub fits : room ≤ length before
  pub prints : PutsShort room 0 (piece d t from) before after size
  pub writes : text ≡ take size after

abbrev pub WrittenFrom : Result Drawing Refusal → Table → ℕ → List (List ℕ) → Type 0
WrittenFrom d t from [] = most_columns ≤ from
WrittenFrom d t from (text ∷ texts) = Written d t from text × WrittenFrom d t (from + columns_at_once) texts

-- The texts one after the other are what is printed for all pieces together.
pub record Prints (pieces : List (List ℕ)) : Type 0 where
  pub prints : (line : List ℕ) (hours : List ℤ) → length line ≡ kept_bytes → length hours ≡ largest_hours
      → (read over : Progress) → ReadAll pieces (progress begun line hours) read → over ≡ closed read
      → (cs cs' : List ℤ) (ks ks' : List ℕ) → length cs ≡ largest_hours → length ks ≡ largest_hours / 2
      → (d : Result Drawing Refusal) → Decided over.text over.hours cs ks cs' ks' d
      → (texts : List (List ℕ)) → WrittenFrom d (lent cs' ks') 0 texts → flatten texts ≡ printed (flatten pieces)
