-- The old log reader's calls one after the other write what is defined for the text. Assumes nothing.
use Rattle.kit.proofs.{◌≡◌, sym, ap, ◌∙◌, List, [], ◌∷◌, foldl, flatten, ℕ, ◌-◌, ◌^◌, ◌≤◌, ◌<◌, arith, ℤ, length, take}
use Rattle.kit.proofs.{Result}
use Rattle.words.specs.declared.Refusal.{Refusal}
use Rattle.laws.proofs.Filled.{filled-first}
use Rattle.parsing.specs.Parsing.{Progress, progress, begun, read_on, closed}
use Rattle.old_text.specs.RebuiltText.{piece}
use Rattle.old_text.proofs.InPieces.{rest, piece_then, rest-none}
use Rattle.old_text.proofs.Whole.{rebuilt_after, decided-whole, rebuilt-in-pieces}
use Rattle.theorems.specs.Rebuilder.{Written, WrittenFrom, Rebuilds}
use Rattle.theorems.proofs.Printer.{read_all, put_first}

module _ (d : Result ℕ Refusal) (s : List ℤ) where
  -- What is written is the piece that is printed.
  written-piece : (from : ℕ) (text : List ℕ) → Written d s from text → text ≡ piece d s from
  written-piece from text w =
      let p = w.prints in
      let short : length (piece d s from) ≤ length w.before = omega (arith, p.short, w.fits) in
      let size : length (piece d s from) ≡ w.size = omega (arith, p.puts.next) in
      w.writes
      ∙ ap (take w.size) (p.puts.buffer ∙ put_first (piece d s from) w.before short)
      ∙ filled-first (piece d s from) w.before w.size size

  written-rest : (texts : List (List ℕ)) (from : ℕ) → WrittenFrom d s from texts → flatten texts ≡ rest d s from
  unfolding flatten
  written-rest [] from over = sym (rest-none d s from over)
  written-rest (text ∷ texts) from (first, more) =
      rw (written-piece from text first, written-rest texts _ more) (piece_then d s from)

pub rebuilds-pieces : (pieces : List (List ℕ)) → length (flatten pieces) < 2 ^ 64 - 1 → Rebuilds pieces
rebuilds-pieces pieces few =
    record {
      rebuilds = λ line hours size hold read over all end cs fs cs' fs' s' d is texts written.
          let same : over ≡ closed (foldl read_on (progress begun line hours) pieces) =
          end ∙ ap closed (read_all pieces (progress begun line hours) read all) in
          written-rest d s' texts 0 written
          ∙ decided-whole over.text cs fs over.hours cs' fs' s' d is
          ∙ ap (λ (q : Progress). rebuilt_after q.text q.hours) same
          ∙ rebuilt-in-pieces pieces line hours size hold few;
    }
