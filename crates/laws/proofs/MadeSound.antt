-- The table of a series is sound. Assumes nothing.
use Rattle.kit.proofs.{◌≡◌, refl, ap, ◌∙◌, Bool, true, false, ◌&&◌, ◌||◌, List, ⊎_elim, ℕ, suc, ◌≤◌, ◌<◌, None, Option}
use Rattle.kit.proofs.{Some, eq-or-lt_of_le, ltb, ℤ, pos, neg_ℤ, ◌-ℤ◌, lt_z}
use Rattle.words.specs.Said.{held}
use Rattle.std.specs.Int.{int_min, int_max}
use Rattle.signed.proofs.{sub_parts, min-parts, max-parts, true-eq_z, signed}
use Rattle.words.specs.{largest_reading, largest_detail, left_mark, right_mark, low_of, high_of, Readings}
use Rattle.words.specs.declared.{Range.Range}
use Rattle.om3.specs.Document.{is_reading, is_gap, Holds, hour, hour_of, Node, InTree, root, left, right, start}
use Rattle.om3.specs.Document.{first_hour, hour_range, both, range_of, Table, low_detail, high_detail, code, pair_code}
use Rattle.om3.specs.Document.{table_of, left_half, coefficient_at, is_detail, ordered, both_are, sound_details}
use Rattle.om3.specs.Document.{sound_code, gap_from, sound_node, sound_root_values, sound_table}
use Rattle.laws.proofs.Tests.{both_true, by-test, left-true, right-true, is-between}
use Rattle.laws.proofs.{Nodes.pair-yes, Nodes.pair-no, Ranges.range-halves, Ranges.readings-range}
use Rattle.laws.proofs.{Reached.reached-range, NodeLists.table-from-each}
use Rattle.laws.proofs.Down.{halves-back, hour_if, code_if, hours-back}
use Rattle.laws.proofs.Places.{root-low, root-high, low-place, high-place, code-place, hour-range}

root-sound : (r : Option Range) → Readings r → sound_root_values (low_of r) (high_of r) ≡ true
root-sound None p = refl
root-sound (Some r) p =
    right-true (is_gap r.low && is_gap r.high)
    (both_true {a = is_reading r.low && is_reading r.high}
    (both_true {a = is_reading r.low}
    (is-between (neg_ℤ (pos largest_reading)) (pos largest_reading) r.low (omega signed) (omega signed))
    (is-between (neg_ℤ (pos largest_reading)) (pos largest_reading) r.high (omega signed) (omega signed)))
    (omega signed))

-- A node that is not a pair, and both of whose halves have readings.
module _ (a b c d : ℤ) (p : Readings (held a b)) (q : Readings (held c d)) where
  abbrev r : Option Range
  r = both (held a b) (held c d)

  held-sound : sound_details r (a -ℤ c) (b -ℤ d) ≡ true
  held-sound =
      right-true (both_are left_mark (a -ℤ c) (b -ℤ d) || both_are right_mark (a -ℤ c) (b -ℤ d))
      (both_true {a = is_detail (a -ℤ c) && is_detail (b -ℤ d) && ordered (left_half r (a -ℤ c) (b -ℤ d))}
      (both_true {a = is_detail (a -ℤ c) && is_detail (b -ℤ d)}
      (both_true {a = is_detail (a -ℤ c)}
      (is-between (neg_ℤ (pos largest_detail)) (pos largest_detail) (a -ℤ c)
      (omega (signed, sub_parts a c)) (omega (signed, sub_parts a c)))
      (is-between (neg_ℤ (pos largest_detail)) (pos largest_detail) (b -ℤ d)
      (omega (signed, sub_parts b d)) (omega (signed, sub_parts b d))))
      (ap ordered (halves-back (held a b) (held c d) p q).0 ∙ omega signed))
      (ap ordered (halves-back (held a b) (held c d) p q).1 ∙ omega signed))

details-sound : (r s : Option Range) → Readings r → Readings s
    → sound_details (both r s) (low_detail r s) (high_detail r s) ≡ true
details-sound None None p q = refl
details-sound None (Some r) p q = refl
details-sound (Some r) None p q = refl
details-sound (Some r) (Some u) p q = held-sound r.low r.high u.low u.high p q

code-sound : (x y : ℤ) → sound_code (both (hour_range x) (hour_range y)) (code x y) ≡ true
code-sound x y = by (is_gap x) (is_gap y) (lt_z x y) refl
  where
    by : (f g h : Bool) → lt_z x y ≡ h → sound_code (both (hour_if f x) (hour_if g y)) (code_if f g h) ≡ true
    by true true h e = refl
    by true false h e = true-eq_z y y refl
    by false true h e = true-eq_z x x refl
    by false false true e =
        left-true {a = lt_z (int_min x y) (int_max x y)} _ (omega (signed, min-parts x y, max-parts x y))
    by false false false e = refl

-- Hours from n on are gaps.
late-gap : (n : ℕ) (s : List ℤ) (h : ℕ) → gap_from n (hour h) (hour_range (hour_of n s (hour h))) ≡ true
unfolding hour_of
late-gap n s h = by-test (ltb h n) (λ e. rw e) (λ e. rw e)

module _ (l n : ℕ) (s : List ℤ) (holds : Holds n s) (o : 1 ≤ l) where
  abbrev T : Table
  T = table_of l n s

  module _ (v : Node) (i : InTree l v) (b : v.level < l) where
    detail-node : suc v.level < l → sound_node l n T v ≡ true
    unfolding sound_node
    detail-node h =
        rw (
          pair-no l v h,
          reached-range l n s holds o v.level v.index i.deep i.among,
          range-halves l n s v b,
          low-place l n s v i h,
          high-place l n s v i h,
        )
        (details-sound (range_of l n s (left v)) (range_of l n s (right v))
        (readings-range n s holds l (left v)) (readings-range n s holds l (right v)))

    pair-node : suc v.level ≡ l → sound_node l n T v ≡ true
    unfolding sound_node pair_code
    pair-node h =
        let x = hour_of n s (hour (start l (left v))) in
        let y = hour_of n s (hour (start l (right v))) in
        rw (
          pair-yes l v h,
          reached-range l n s holds o v.level v.index i.deep i.among,
          range-halves l n s v b,
          code-place l n s v i h,
          hour-range l n s (left v) h,
          hour-range l n s (right v) h,
          (hours-back x y).0,
          (hours-back x y).1,
        )
        (let C = sound_code (both (hour_range x) (hour_range y)) (code x y) in
        let F = gap_from n (first_hour l (left v)) (hour_range x) in
        both_true {a = C && F} (both_true {a = C} (code-sound x y) (late-gap n s (start l (left v))))
        (late-gap n s (start l (right v))))

    node-sound : sound_node l n T v ≡ true
    node-sound = ⊎_elim pair-node detail-node (eq-or-lt_of_le b)

  pub made-sound : sound_table l n T ≡ true
  unfolding sound_table
  made-sound =
      both_true {a = sound_root_values (coefficient_at T 0) (coefficient_at T 1)}
      (rw (root-low l n s o, root-high l n s o) (root-sound (range_of l n s root) (readings-range n s holds l root)))
      (table-from-each l (sound_node l n T) node-sound)
