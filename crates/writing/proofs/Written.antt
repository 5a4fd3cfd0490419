-- Each answer of writing a record: its checks in their order, and the record of a sound table. Assumes nothing.
use Rattle.kit.proofs.{◌≡◌, sym, ap, ◌∙◌, List, ℕ, ◌+◌, ◌/◌, ◌≤◌, ◌<◌, le_refl, arith, ℤ, pos, length, take}
use Rattle.kit.proofs.{Err, Ok, Result, length-take-le, get_or-take, take-take}
use Rattle.std.specs.Borrow.{Bor}
use Rattle.words.specs.declared.{NodeId.NodeId, Refusal.Refusal}
use Rattle.words.specs.declared.Refusal.TheVariants as refusal
use Rattle.om3.specs.Document.{levels, P, Table, lent, Check, passes, refuses, in_order, examine_table}
use Rattle.om3.specs.Document.{filled, length_for, record_size, record_of, writing_checks}
use Rattle.sizes.specs.declared.table.LentTable.{LentTable}
use Rattle.sizes.specs.Lent.{lent_check, IsLent, Enough}
use Rattle.laws.proofs.{Making.good-some, Levels.levels-some, Examined.examine-sound, Threes.sound-threes}
use Rattle.sizes.proofs.TableChecks
use Rattle.sizes.proofs.Lent.{lent-there}
use Rattle.packing.specs.Packing.{EachInThree}
use Rattle.examining.specs.Examining.{check_of}
use Rattle.examining.proofs.Told.{RefusedBy, refused-by, examined-lent}
use Rattle.writing.specs.Writing.{Ready, RecordWritten}

module _ (n : ℕ) (cs : Bor (List ℤ)) (ks : Bor (List ℕ)) (out : List ℕ) where
  abbrev T : Table
  T = lent cs.now ks.now

  abbrev checks : Check
  checks = in_order (writing_checks n T (length out))

  -- A refusal leaves the bytes as they were.
  pub refused : {why : Refusal} → checks ≡ refuses why → RecordWritten n cs.now ks.now out out (Err why)
  refused e = record { answer = rw e; bytes = rw e }

  pub lent-refused : (why : Refusal) → lent_check n T ≡ refuses why → RecordWritten n cs.now ks.now out out (Err why)
  lent-refused why e = refused (TableChecks.lent-refused n cs.now ks.now (length out) (record_size n) why e)

  -- The table is lent, and the size that is asked for is the record's.
  module _ (t : LentTable) (h : IsLent n cs ks t) (size : ℕ) (sized : size ≡ 4 + length_for t.p) where
    places : t.p ≡ P n
    places = t.places ∙ ap P h.hours

    whole : size ≡ record_size n
    whole = rw places at sized

    pub short-buffer : length out < size → RecordWritten n cs.now ks.now out out (Err refusal.ShortBuffer)
    short-buffer less =
        refused
        (TableChecks.buffer-short n cs.now ks.now (length out) (record_size n) (lent-there h) (omega (arith, whole)))

    module _ (room : size ≤ length out) (r : Result Unit NodeId)
        (found : check_of r ≡ examine_table t.table.n (lent t.table.coefficients.now t.table.codes.now)) where
      enough : Enough n cs.now ks.now (length out) (record_size n)
      enough = record { table = lent-there h; buffer = omega (arith, whole) }

      -- Only the table itself is still to examine.
      examined : checks ≡ check_of r
      examined =
          TableChecks.decided n cs.now ks.now (length out) (record_size n) enough ∙ sym (examined-lent h found)

      pub unsound-refused : (why : Refusal) → RefusedBy r why → RecordWritten n cs.now ks.now out out (Err why)
      unsound-refused why told = refused (examined ∙ refused-by r told)

      module _ (g : r ≡ Ok tt) where
        taken : examine_table n T ≡ passes
        taken = sym (examined-lent h found) ∙ ap check_of g

        first-threes : EachInThree (take (P n) cs.now)
        first-threes q b =
            let b' : q < P n = omega (arith, length-take-le (P n) cs.now enough.table.coefficients) in
            let sound = (examine-sound (levels n) n T).0 taken in
            rw (get_or-take (P n) cs.now q (pos 0) b') (sound-threes (levels n) n T (levels-some n) sound q b')

        pub ready : Ready n (take t.p cs.now) (take (t.p / 2) ks.now) (length out)
        ready =
            rw places
            (record {
              most = (good-some n enough.table.good).1;
              coefficients = length-take-le (P n) cs.now enough.table.coefficients;
              threes = first-threes;
              codes = length-take-le (P n / 2) ks.now enough.table.codes;
              room = enough.buffer;
            })

        pub record-written : (out' : List ℕ)
            → out' ≡ filled (record_of n (lent (take t.p cs.now) (take (t.p / 2) ks.now))) out
            → RecordWritten n cs.now ks.now out out' (Ok size)
        unfolding record_of
        record-written out' w =
            let a = take-take (P n) (P n) cs.now (le_refl (P n)) in
            let b = take-take (P n / 2) (P n / 2) ks.now (le_refl (P n / 2)) in
            let passed : checks ≡ passes = examined ∙ ap check_of g in
            record { answer = rw (passed, whole); bytes = rw passed (w ∙ rw (places, a, b)) }
