-- What `make` promises at each of its answers: the checks in their order, and the whole table. Assumes nothing.
use Rattle.kit.proofs.{◌≡◌, ◌∙◌, true, false, ◌||◌, List, ℕ, ◌+◌, ◌*◌, ◌^◌, ◌≤◌, ◌<◌, arith, ℤ, length, set, mag}
use Rattle.kit.proofs.{Option, Err, Ok, lt-ltb, le-ltb}
use Rattle.words.specs.{low_of, high_of, declared.Range.Range, declared.Refusal.Refusal}
use Rattle.words.specs.declared.Refusal.TheVariants.{BadHours, ShortBuffer}
use Rattle.om3.specs.Document.{bad_hours, levels, P, root, Table, lent, refuses, in_order, short, table_short}
use Rattle.om3.specs.Document.{check_readings, making_checks, checked_by}
use Rattle.sizes.specs.Lent.{TableLent}
use Rattle.signed.proofs.{reads-back}
use Rattle.laws.proofs.Levels.{levels-some, 2≤P, P-even}
use Rattle.laws.proofs.Taken.{taken-passes, refused-refuses, making-decided}
use Rattle.node.proofs.{Located.root-located, Told.back}
use Rattle.making.specs.Making.{Filled, Tabled, Made}
use Rattle.making.proofs.{Details.coefficients-made, Codes.codes-made}

-- Node 1 has room below it, and so have its low and high.
module _ (n p : ℕ) (cs : List ℤ) (ks : List ℕ) (room : TableLent n cs ks) (e : p ≡ P n) where
  pub root-two : 2 ≤ p
  root-two = omega (arith, 2≤P n)

  pub root-hours : 0 + p ≤ 2 * length ks
  root-hours = omega (arith, room.codes, P-even n)

  pub low-place : {size : ℕ} → size ≡ length cs → 0 < size
  low-place kept = omega (arith, room.coefficients, 2≤P n)

  pub high-place : {size : ℕ} → size ≡ length cs → 1 < size
  high-place kept = omega (arith, room.coefficients, 2≤P n)

-- The recursion over node 1, with its low x and its high y written, leaves the table.
module _ (n : ℕ) (s : List ℤ) (p : ℕ) (cs cs₁ : List ℤ) (ks ks₁ : List ℕ) (r : Option Range) where
  pub whole_table : Filled n s 1 0 p cs cs₁ ks ks₁ r → TableLent n cs ks → p ≡ P n → {x y : ℤ} → x ≡ low_of r
      → y ≡ high_of r → mag x < 2 ^ 31 → mag y < 2 ^ 31
      → Tabled n s cs ks (set (set cs₁ 0 (back x)) 1 (back y)) ks₁
  whole_table done room e {x} {y} ex ey xm ym =
      let l = levels n in
      let at = done.below l root (rw e (root-located l)) in
      record {
        coefficients =
            rw (reads-back x xm, reads-back y ym, ex, ey, at.range, at.coefficients)
            (coefficients-made l n s (levels-some n) cs room.coefficients);
        codes = at.codes ∙ codes-made l n s (levels-some n) ks room.codes;
      }

module _ (n : ℕ) (s : List ℤ) (cs : List ℤ) (ks : List ℕ) where
  abbrev T : Table
  T = lent cs ks

  -- A refusal leaves both buffers as they were.
  refused : (why : Refusal) → in_order (making_checks n s T) ≡ refuses why → Made n s cs ks cs ks (Err why)
  refused why e = record { answer = rw e; coefficients = rw e; codes = rw e }

  pub bad-hours : bad_hours n ≡ true → Made n s cs ks cs ks (Err BadHours)
  bad-hours b = refused BadHours (unfold in_order in rw b)

  module _ (good : bad_hours n ≡ false) where
    -- Any of the three buffers too short.
    no_room : (short (length s) n || table_short n T) ≡ true → Made n s cs ks cs ks (Err ShortBuffer)
    no_room e = refused ShortBuffer (unfold in_order in rw (good, e))

    pub few-readings : length s < n → Made n s cs ks cs ks (Err ShortBuffer)
    few-readings h = no_room (rw (lt-ltb (length s) n h))

    module _ (read : n ≤ length s) where
      pub short-table : table_short n T ≡ true → Made n s cs ks cs ks (Err ShortBuffer)
      short-table h = no_room (rw (le-ltb (length s) n read, h))

      module _ (room : table_short n T ≡ false) where
        last : in_order (making_checks n s T) ≡ check_readings n s
        last = making-decided n good s T (rw (le-ltb (length s) n read, room))

        pub bad-reading : (why : Refusal)
            → Err why ≡ checked_by (check_readings n s)
            → Made n s cs ks cs ks (Err why)
        bad-reading why e = refused why (last ∙ refused-refuses (check_readings n s) why e)

        pub taken : Ok tt ≡ checked_by (check_readings n s)
            → (cs₁ : List ℤ) (ks₁ : List ℕ)
            → Tabled n s cs ks cs₁ ks₁ → Made n s cs ks cs₁ ks₁ (Ok tt)
        taken e cs₁ ks₁ t =
            let ok = last ∙ taken-passes (check_readings n s) e in
            record { answer = rw ok; coefficients = rw ok t.coefficients; codes = rw ok t.codes }
