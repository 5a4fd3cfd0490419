-- What is proved beside the demands: making after turning back, reading after writing and writing after reading, single
-- coefficients, what the boundary tells, the columns of a window, how the looks through parts make up the whole, and
-- what the printer prints. Assumes nothing.
use Rattle.kit.proofs.{◌≡◌, false, List, map, flatten, flat_map, ℕ, ◌-◌, ◌/◌, ◌^◌, ◌≤◌, ◌<◌, ℤ, pos, length, get_or}
use Rattle.kit.proofs.{take, Option, Result, Ok, Err}
use Rattle.words.specs.declared.{Summary.Summary, HourLine.HourLine, Refusal.Refusal}
use Rattle.words.specs.Said.{finished_as}
use denote.Ref.{Bor}
use Rattle.om3.specs.Document.{up_from, Series, levels, P, hours_from, table_of, lent, table_short, filled, passes}
use Rattle.om3.specs.Document.{refuses, in_order, coefficient_in, opening_checks, asking_view, asking, column}
use Rattle.om3.specs.Document.{column_hours, finished, joined, look_through, count, grams_of, printing_checks}
use Rattle.laws.proofs as laws
use Rattle.making.specs.Making.{Made}
use Rattle.turning.specs.Turning.{TurnedBack}
use Rattle.view.specs.{declared.View.View, View.view_of}
use Rattle.writing.specs.Writing.{RecordWritten}
use Rattle.reading.specs.Reading.{RecordRead}
use Rattle.told.specs.Columns.{answer_told, answer_in}
use Rattle.told.proofs as told
use Rattle.theorems.specs.Printer.{Prints}
use Rattle.theorems.proofs as theorems

-- Making after turning back gives the same table.
make-after-turn-back : (n : ℕ) (cs : List ℤ) (ks : List ℕ) (out out' : List ℤ)
    → TurnedBack n cs ks out out' (Ok tt) → (cs₁ : List ℤ) (ks₁ : List ℕ) → table_short n (lent cs₁ ks₁) ≡ false
    → (cs₂ : List ℤ) (ks₂ : List ℕ) (r : Result Unit Refusal) → Made n out' cs₁ ks₁ cs₂ ks₂ r
    → (r ≡ Ok tt) × (cs₂ ≡ filled (take (P n) cs) cs₁) × (ks₂ ≡ filled (take (P n / 2) ks) ks₁)
make-after-turn-back = theorems.Calls.made_after

-- Reading after writing gives the same table and n.
read-after-write : (n : ℕ) (cs : List ℤ) (ks out out' : List ℕ) (b : ℕ) → RecordWritten n cs ks out out' (Ok b)
    → (cs₁ : List ℤ) (ks₁ : List ℕ) → table_short n (lent cs₁ ks₁) ≡ false
    → (cs₂ : List ℤ) (ks₂ : List ℕ) (u : Result ℕ Refusal) → RecordRead (take b out') cs₁ ks₁ cs₂ ks₂ u
    → (u ≡ Ok n) × (cs₂ ≡ filled (take (P n) cs) cs₁) × (ks₂ ≡ filled (take (P n / 2) ks) ks₁)
read-after-write = theorems.Records.read-after-write

module _ (r : List ℕ) (cs : List ℤ) (ks : List ℕ) (cs' : List ℤ) (ks' : List ℕ) (n : ℕ)
    (done : RecordRead r cs ks cs' ks' (Ok n)) where
  -- Writing after reading gives the same record.
  write-after-read : (out out' : List ℕ) (w : Result ℕ Refusal) → length r ≤ length out
      → RecordWritten n cs' ks' out out' w → (w ≡ Ok (length r)) × (out' ≡ filled r out)
  write-after-read = theorems.Records.write-after-read r cs ks cs' ks' n done done.bytes

  -- A coefficient asked for is the one that was unpacked.
  asked-is-unpacked : (p : ℕ) → p < P n → asking r p ≡ Ok (get_or cs' p (pos 0))
  asked-is-unpacked = theorems.Records.asked-read r cs ks cs' ks' n done

-- Asking the view that `open` gives of bytes that opening takes answers what the record answers, which for each place
-- of the view is the coefficient there; of other bytes it answers 13.
module _ (bytes : Bor (List ℕ)) (v : View) (opens : v ≡ view_of bytes) (p : ℕ) (u : Result ℤ Refusal)
    (asks : u ≡ asking_view v.bytes.now v.places p) where
  view-answers : in_order (opening_checks bytes.now) ≡ passes → u ≡ asking bytes.now p
  view-answers = theorems.Views.view-answers bytes v opens p u asks

  view-coefficient : p < v.places → u ≡ Ok (coefficient_in bytes.now p)
  view-coefficient = theorems.Views.view-coefficient bytes v opens p u asks

  view-refuses : (why : Refusal) → in_order (opening_checks bytes.now) ≡ refuses why → u ≡ Err Refusal.BadPlace
  view-refuses = theorems.Views.view-refuses bytes v opens p u asks

-- The columns of a window hold its hours, each once and in order.
window-columns : (a b w : ℕ) → 1 ≤ w → a ≤ b
    → flat_map column_hours (map (column a b w) (up_from 0 w)) ≡ hours_from a (b - a)
window-columns = laws.Windows.window-columns

-- An answer that was told and is handed in, to be joined, is the same answer.
answer_back : (a : Option Summary) → answer_in (answer_told a) ≡ a
answer_back = told.Back.answer_back

-- What a look through the hours from f up to, not including, h gives is joined from those of its parts, cut at hour g.
look-joined : (n : ℕ) (s : List ℤ) (f g h : ℕ) → f ≤ g → g ≤ h
    → look_through n s (hours_from f (h - f))
    ≡ joined (look_through n s (hours_from f (g - f))) (look_through n s (hours_from g (h - g)))
look-joined = laws.LookedThrough.look-through-cut

-- The printer's calls, by their contracts, print what document 01 prints for the text, however it is cut into pieces,
-- if it has fewer than 2^64 − 1 bytes.
printer : (pieces : List (List ℕ)) → length (flatten pieces) < 2 ^ 64 - 1 → Prints pieces
printer = theorems.Printer.prints-pieces

-- The hours of a text that is taken are a series; each column that is printed is answered, by the answer that a look
-- through its hours gives, with the defined count.
module _ (a b w : ℕ) (lines : List HourLine) (ok : in_order (printing_checks a b w lines) ≡ passes) where
  printed-series : Series (length lines) (map grams_of lines)
  printed-series = laws.PrintedColumns.text-series a b w lines ok

  printed-columns : (k : ℕ) → k < w
      → (let n = length lines in let s = map grams_of lines in
      let t = table_of (levels n) n s in let x = column a b w k in
      finished n t a b w k ≡ finished_as (look_through n s (column_hours x)) (count (levels n) t x))
  printed-columns = laws.PrintedColumns.columns-answered a b w lines ok
