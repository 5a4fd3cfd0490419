-- Checks 1, 3 and 4 of a table that becomes something else, in a buffer of which so much is lent and so much needed,
-- one after the other: those of turning back and of writing a record. Assumes nothing.
use Rattle.kit.proofs.{◌≡◌, sym, ◌∙◌, Bool, true, false, ◌||◌, List, [], ◌∷◌, ℕ, ◌/◌, ◌≤◌, ◌<◌, ℤ, length, lt-ltb}
use Rattle.kit.proofs.{le-ltb, ltb-false}
use Rattle.words.specs.{largest_hours}
use Rattle.words.specs.declared.Refusal.{Refusal}
use Rattle.words.specs.declared.Refusal.TheVariants.{BadHours, ShortBuffer}
use Rattle.om3.specs.Document.{bad_hours, P, Table, lent, Check, passes, refuses, refuse_if, and_then, in_order}
use Rattle.om3.specs.Document.{check_hours, short}
use Rattle.om3.specs.Document.{table_short, check_room, examine_table}
use Rattle.laws.proofs.{Tests.neither, Levels.P-most}
use Rattle.laws.proofs.Examined.{then-passes, order-parts, first_absent}
use Rattle.sizes.specs.Lent.{lent_check, TableLent, Enough}
use Rattle.sizes.proofs.Lent.{table-lent, table-room}

-- So many places there are at most.
pub places-most : (n : ℕ) {p : ℕ} → p ≡ P n → p ≤ largest_hours
places-most n e = rw e (P-most n)

module _ (n : ℕ) (cs : List ℤ) (ks : List ℕ) (size needed : ℕ) where
  abbrev T : Table
  T = lent cs ks

  abbrev checks : Check
  checks =
      in_order (check_hours n ∷ check_room (table_short n T || short size needed) ∷ examine_table n T ∷ [])

  -- By what check 1 found, how many places there are, and what check 3 found of the table.
  module _ {bad : Bool} (hours-told : bad ≡ bad_hours n) where
    pub bad-hours : bad ≡ true → checks ≡ refuses BadHours
    unfolding in_order
    bad-hours b = rw (sym hours-told ∙ b)

    module _ (good : bad ≡ false) {p : ℕ} (places : p ≡ P n) {less : Bool}
        (table-told : less ≡ (short (length cs) p || short (length ks) (p / 2))) where
      hours-good : bad_hours n ≡ false
      hours-good = sym hours-told ∙ good

      table-found : less ≡ table_short n T
      table-found = rw places at table-told

      pub short-table : less ≡ true → checks ≡ refuses ShortBuffer
      unfolding in_order
      short-table h = rw (hours-good, sym table-found ∙ h)

      module _ (room : less ≡ false) where
        pub short-buffer : size < needed → checks ≡ refuses ShortBuffer
        unfolding in_order
        short-buffer h = rw (hours-good, sym table-found ∙ room, lt-ltb size needed h)

        pub enough : needed ≤ size → Enough n cs ks size needed
        enough h = record { table = table-lent n cs ks hours-good (sym table-found ∙ room); buffer = h }

  -- By what checks 1 and 3 of the table say, and how much else is lent.
  pub lent-refused : (why : Refusal) → lent_check n T ≡ refuses why → checks ≡ refuses why
  unfolding in_order
  lent-refused why e = by (bad_hours n) (table_short n T) e
    where
      by : (a b : Bool) → and_then (refuse_if a BadHours) (and_then (refuse_if b ShortBuffer) passes) ≡ refuses why
          → and_then (refuse_if a BadHours)
          (and_then (refuse_if (b || short size needed) ShortBuffer) (and_then (examine_table n T) passes))
          ≡ refuses why
      by true b e = e
      by false true e = e
      by false false e = cc

  pub buffer-short : TableLent n cs ks → size < needed → checks ≡ refuses ShortBuffer
  unfolding in_order
  buffer-short t h = rw (t.good, table-room n cs ks t, lt-ltb size needed h)

  -- Only the table itself is still to examine.
  pub decided : Enough n cs ks size needed → checks ≡ examine_table n T
  unfolding in_order
  decided h =
      rw (h.table.good, table-room n cs ks h.table, le-ltb size needed h.buffer)
      (then-passes (examine_table n T))

  -- Checks that pass have passed one by one.
  pub passed : checks ≡ passes → Enough n cs ks size needed × (examine_table n T ≡ passes)
  passed h =
      let a = first_absent (bad_hours n) BadHours _ h in
      let b = first_absent _ ShortBuffer _ a.1 in
      let parts = neither (table_short n T) (short size needed) b.0 in (
        record { table = table-lent n cs ks a.0 parts.0; buffer = ltb-false _ _ parts.1 },
        (order-parts (examine_table n T) _ b.1).0,
      )
