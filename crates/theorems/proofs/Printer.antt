-- The printer's calls, by their contracts, write what document 01 prints for all pieces together. Assumes nothing.
use Rattle.kit.proofs.{◌≡◌, sym, ap, ◌∙◌, List, [], ◌∷◌, ◌++◌, foldl, flatten, ℕ, ◌+◌, ◌-◌, ◌^◌, ◌≤◌, ◌<◌, arith}
use Rattle.kit.proofs.{length, take, drop, sets, sets-eq, Result}
use Rattle.words.specs.declared.Refusal.{Refusal}
use Rattle.om3.specs.Document.{Table, lent, filled}
use Rattle.laws.proofs.Filled.{filled-first}
use Rattle.parsing.specs.Parsing.{Progress, progress, begun, read_on, closed}
use Rattle.printing.specs.declared.Drawing.{Drawing}
use Rattle.printing.specs.Printing.{piece}
use Rattle.printing.proofs.Whole.{printed_after, hours-in-pieces, printed-in-pieces}
use Rattle.printing.proofs.{InPieces.rest, InPieces.Few, InPieces.piece_then, InPieces.rest-none}
use Rattle.printing.proofs.DrawnWhole.{decided-whole}
use Rattle.theorems.specs.Printer.{ReadAll, Written, WrittenFrom, Prints}

pub read_all : (pieces : List (List ℕ)) (p q : Progress) → ReadAll pieces p q → q ≡ foldl read_on p pieces
read_all [] p q e = e
read_all (piece ∷ pieces) p q (m, e, more) = read_all pieces m q more ∙ ap (λ x. foldl read_on x pieces) e

-- A text put at the start of a buffer that has room for it.
pub put_first : (text out : List ℕ) → length text ≤ length out → sets out 0 text ≡ filled text out
put_first text out h =
    let z : 0 + length text ≡ length text = omega arith in
    sets-eq text out 0 (omega arith) ∙ ap (λ m. text ++ drop m out) z

module _ (d : Result Drawing Refusal) (t : Table) where
  -- What is written is the piece that is printed.
  written-piece : (from : ℕ) (text : List ℕ) → Written d t from text → text ≡ piece d t from
  written-piece from text w =
      let p = w.prints in
      let short : length (piece d t from) ≤ length w.before = omega (arith, p.short, w.fits) in
      let size : length (piece d t from) ≡ w.size = omega (arith, p.puts.next) in
      w.writes
      ∙ ap (take w.size) (p.puts.buffer ∙ put_first (piece d t from) w.before short)
      ∙ filled-first (piece d t from) w.before w.size size

  written-rest : Few d → (texts : List (List ℕ)) (from : ℕ) → WrittenFrom d t from texts → flatten texts ≡ rest d t from
  unfolding flatten
  written-rest few [] from over = sym (rest-none d few t from over)
  written-rest few (text ∷ texts) from (first, more) =
      rw (written-piece from text first, written-rest few texts _ more) (piece_then d t from)

pub prints-pieces : (pieces : List (List ℕ)) → length (flatten pieces) < 2 ^ 64 - 1 → Prints pieces
prints-pieces pieces few =
    record {
      prints = λ line hours size hold read over all end cs cs' ks ks' many pairs d is texts written.
          let same : over ≡ closed (foldl read_on (progress begun line hours) pieces) =
          end ∙ ap closed (read_all pieces (progress begun line hours) read all) in
          let room = ap (λ (q : Progress). length q.hours) same ∙ hours-in-pieces pieces line hours size hold few in
          let whole = decided-whole over.text over.hours cs ks room many pairs cs' ks' d is in
          written-rest d (lent cs' ks') whole.0 texts 0 written
          ∙ whole.1
          ∙ ap (λ (q : Progress). printed_after q.text q.hours) same
          ∙ printed-in-pieces pieces line hours size hold few;
    }
