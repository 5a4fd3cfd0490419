-- The old log reader's calls one after the other: reading as the printer does, then deciding, and printing piece after
-- piece. Assumes nothing.
--
--   Written d s from text      this is printed at once from an hour on, into some buffer, and written
--   WrittenFrom d s from texts these texts are, from that hour on to beyond the last that there can be
--   Rebuilds pieces            what is written for these pieces, whatever the lent buffers held
use Rattle.std.specs.Prelude.{◌≡◌, ℕ, ◌+◌, ◌≤◌, ℤ, length, take, Result}
use Rattle.words.specs.declared.Refusal.{Refusal}
use mathlib.Core.List.{List, [], ◌∷◌, flatten}
use Rattle.words.specs.Constants.{largest_hours}
use Rattle.om3.specs.OldText.{rebuilt_text}
use Rattle.parsing.specs.Parsing.{kept_bytes, Progress, progress, begun, closed}
use Rattle.putting.specs.Putting.{PutsShort}
use Rattle.old_text.specs.RebuiltText.{hours_at_once, room, Decided, piece}
use Rattle.theorems.specs.Printer.{ReadAll}

-- The text is as much of the buffer as printing tells.
pub record Written (d : Result ℕ Refusal) (s : List ℤ) (from : ℕ) (text : List ℕ) : Type 0 where
  pub before : List ℕ
  pub after : List ℕ
  pub size : ℕ
  pub fits : room ≤ length before
  pub prints : PutsShort room 0 (piece d s from) before after size
  pub writes : text ≡ take size after

abbrev pub WrittenFrom : Result ℕ Refusal → List ℤ → ℕ → List (List ℕ) → Type 0
WrittenFrom d s from [] = largest_hours ≤ from
WrittenFrom d s from (text ∷ texts) = Written d s from text × WrittenFrom d s (from + hours_at_once) texts

-- The texts one after the other are what is rebuilt from all pieces together.
pub record Rebuilds (pieces : List (List ℕ)) : Type 0 where
  pub rebuilds : (line : List ℕ) (hours : List ℤ) → length line ≡ kept_bytes → length hours ≡ largest_hours
      → (read over : Progress) → ReadAll pieces (progress begun line hours) read → over ≡ closed read
      → (cs fs cs' fs' : List ℕ) (s' : List ℤ) (d : Result ℕ Refusal) → Decided over.text cs fs over.hours cs' fs' s' d
      → (texts : List (List ℕ)) → WrittenFrom d s' 0 texts → flatten texts ≡ rebuilt_text (flatten pieces)
