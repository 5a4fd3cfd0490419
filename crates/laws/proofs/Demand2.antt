-- A table is sound exactly if some series has it, and that series is the one it turns back to. Assumes nothing.
use Rattle.kit.proofs.{◌≡◌, refl, sym, ap, ◌∙◌, true, false, ◌||◌, List, ◌↔◌, ℕ, ◌/◌, ◌^◌, ◌≤◌, ◌<◌, le_refl, arith, ℤ}
use Rattle.kit.proofs.{None, Option, Some, pos, neg_ℤ, get_or, ext_get_or, get_or-take, take_all, lt-ltb}
use Rattle.signed.proofs.{signed}
use Rattle.words.specs.{largest_hours, largest_reading, gap, low_of, Readings}
use Rattle.words.specs.declared.{Range.Range}
use Rattle.om3.specs.Document.{is_reading, is_gap, Series, levels, P, hour, hour_of, range_of, Node, InTree, Table}
use Rattle.om3.specs.Document.{coefficient, code_of_place, table_of, HasTable, reached_at, reached, turned_back}
use Rattle.om3.specs.Document.{sound_table, table_short}
use Rattle.laws.proofs.{Tests.left-true, Tests.is-between, Lists.map-up-length, Lists.take-made, Levels.levels-some}
use Rattle.laws.proofs.{Levels.n≤P, Nodes.start-hour, Ranges.low-hour, Reached.reached-range, MadeSound.made-sound}
use Rattle.laws.proofs.{SoundTables.readings-reached, Places.coefficient-place, Places.hour-range, Agreeing.Agree}
use Rattle.laws.proofs.{Agreeing.reached-agrees, Agreeing.sound-agrees}
use Rattle.laws.proofs.Lent.{coefficients-there, codes-there}
use Rattle.laws.proofs.TurnedBack.{turned-length, turned-at, coefficient-same, codes_same}

-- The low of a range of readings is a reading, or the gap mark where it is empty.
low-holds : (r : Option Range) → Readings r → (is_reading (low_of r) || is_gap (low_of r)) ≡ true
low-holds None p = refl
low-holds (Some r) p =
    left-true (is_gap r.low)
    (is-between (neg_ℤ (pos largest_reading)) (pos largest_reading) r.low (omega signed) (omega signed))

module _ (n : ℕ) where
  abbrev l : ℕ
  l = levels n

  -- The table of a series has it.
  pub made-has : (s : List ℤ) → HasTable n s (table_of l n s)
  made-has s =
      record {
        coefficients = take_all (P n) _ (omega (arith, map-up-length (coefficient l n s) 0 (P n)));
        codes = take_all (P n / 2) _ (omega (arith, map-up-length (code_of_place l n s) 0 (P n / 2)));
      }

  has-agrees : (s : List ℤ) (t : Table) → HasTable n s t → Agree l t (table_of l n s)
  has-agrees s t h =
      record {
        coefficients = λ p b.
            sym (get_or-take (P n) t.coefficients p (pos 0) b)
            ∙ ap (λ (cs : List ℤ). get_or cs p (pos 0)) h.coefficients;
        codes = λ p b. sym (get_or-take (P n / 2) t.codes p 0 b) ∙ ap (λ (cs : List ℕ). get_or cs p 0) h.codes;
      }

  -- A table that some series has: it is sound, and turns back to that series.
  module _ (s : List ℤ) (t : Table) (series : Series n s) (h : HasTable n s t) where
    pub has-sound : sound_table l n t ≡ true
    has-sound =
        let o = levels-some n in
        sound-agrees l t (table_of l n s) (has-agrees s t h) o n (made-sound l n s series.holds o)

    -- What is reached at a node is the range of its hours.
    pub has-ranges : (v : Node) → InTree l v → reached l t v ≡ range_of l n s v
    has-ranges v i =
        let o = levels-some n in
        reached-agrees l t (table_of l n s) (has-agrees s t h) o v.level v.index i.deep i.among
        ∙ reached-range l n s series.holds o v.level v.index i.deep i.among

    at-hour : (k : ℕ) → k < n → get_or s k gap ≡ low_of (reached_at l t l k)
    unfolding hour_of
    at-hour k b =
        let b' : k < 2 ^ l = omega (arith, n≤P n series.most) in
        let v : Node = record { level = l; index = k } in
        rw (
          has-ranges v (record { deep = le_refl l; among = b' }),
          hour-range l n s v refl,
          start-hour l v refl,
          low-hour (hour_of n s (hour k)),
          lt-ltb k n b,
        )

    pub has-turned : s ≡ turned_back l t n
    has-turned =
        ext_get_or gap s (turned_back l t n) (series.size ∙ sym (turned-length l t n))
        (λ k b. let b' : k < n = omega (arith, series.size) in at-hour k b' ∙ sym (turned-at l t n k b'))

  -- A sound table: the hours it turns back to are a series, and that series has it.
  module _ (some : 1 ≤ n) (most : n ≤ largest_hours) (t : Table) (ok : sound_table l n t ≡ true) where
    pub turned-series : Series n (turned_back l t n)
    turned-series =
        record {
          some = some;
          most = most;
          size = turned-length l t n;
          holds = λ k b.
              let b' : k < 2 ^ l = omega (arith, n≤P n most) in
              let i : InTree l (record { level = l; index = k }) = record { deep = le_refl l; among = b' } in
              rw (turned-at l t n k b) (low-holds (reached_at l t l k) (readings-reached l n t ok _ i));
        }

    module _ (room : table_short n t ≡ false) where
      abbrev series : List ℤ
      series = turned_back l t n

      pub turned-has : HasTable n (turned_back l t n) t
      turned-has =
          let o = levels-some n in
          record {
            coefficients =
                take-made (coefficient l n series) (pos 0) (P n) t.coefficients (coefficients-there n t room)
                (λ p h. sym (coefficient-same l n t ok o p h) ∙ coefficient-place l n series p h);
            codes =
                take-made (code_of_place l n series) 0 (P n / 2) t.codes (codes-there n t room)
                (λ p h. sym (codes_same l n t ok o p h));
          }

  -- The table of a series turned back is the series: each reading and each gap at its own hour.
  pub made-turned : (s : List ℤ) → Series n s → turned_back l (table_of l n s) n ≡ s
  made-turned s series = sym (has-turned s (table_of l n s) series (made-has s))

  -- Sound exactly if some series of n hours has it.
  pub sound-exactly : 1 ≤ n → n ≤ largest_hours → (t : Table) → table_short n t ≡ false
      → (sound_table l n t ≡ true) ↔ ((s : List ℤ) × Series n s × HasTable n s t)
  sound-exactly some most t room = (
    λ ok. (turned_back l t n, turned-series some most t ok, turned-has some most t ok room),
    λ h. has-sound h.0 t h.1 h.2,
  )

  -- And that series is the only one.
  pub only-series : (t : Table) (s u : List ℤ) → Series n s → HasTable n s t → Series n u → HasTable n u t → s ≡ u
  only-series t s u a p b q = has-turned s t a p ∙ sym (has-turned u t b q)
