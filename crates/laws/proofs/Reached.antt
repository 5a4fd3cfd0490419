-- What is reached at a node of the table of a series is the range of the node's hours. Assumes nothing.
use Rattle.kit.proofs.{◌≡◌, ◌∙◌, List, ⊎_elim, ℕ, zero, suc, ◌+◌, ◌*◌, ◌/◌, ◌%◌, ◌^◌, ◌≤◌, ◌<◌, two-pow-succ, Option}
use Rattle.kit.proofs.{eq-or-lt_of_le, arith, ℤ, eq-eqb, ne_eqb}
use Rattle.words.specs.{declared.Range.Range, Readings}
use Rattle.om3.specs.Document.{Holds, hour, hour_of, Node, InTree, root, left, right, start, range_of, Table, pair_code}
use Rattle.om3.specs.Document.{table_of, coefficient_at, root_range, left_of, right_of, reached_at, reached}
use Rattle.laws.proofs.{Tests.even-or-odd, Nodes.pair-yes, Nodes.pair-no, Ranges.range-halves, Ranges.readings-range}
use Rattle.laws.proofs.{Down.halves-back, Down.root-back, Down.hours-back}
use Rattle.laws.proofs.Places.{root-low, root-high, low-place, high-place, code-place, hour-range}

-- What is reached at a node's halves, in any table.
module _ (l : ℕ) (t : Table) (v : Node) where
  pub reached-left : reached l t (left v) ≡ left_of l t v (reached l t v)
  unfolding reached_at
  reached-left =
      let h : 2 * v.index / 2 ≡ v.index = omega arith in
      let e : 2 * v.index % 2 ≡ 0 = omega arith in
      rw (h, eq-eqb _ _ e)

  pub reached-right : reached l t (right v) ≡ right_of l t v (reached l t v)
  unfolding reached_at
  reached-right =
      let h : (2 * v.index + 1) / 2 ≡ v.index = omega arith in
      let e : (2 * v.index + 1) % 2 ≡ 0 → ⊥ = λ z. omega arith in
      rw (h, ne_eqb _ _ e)

module _ (l n : ℕ) (s : List ℤ) (holds : Holds n s) where
  abbrev T : Table
  T = table_of l n s

  abbrev R : Node → Option Range
  R v = range_of l n s v

  readings : (v : Node) → Readings (R v)
  readings v = readings-range n s holds l v

  module _ (v : Node) (i : InTree l v) where
    details-halves : suc v.level < l → (left_of l T v (R v) ≡ R (left v)) × (right_of l T v (R v) ≡ R (right v))
    details-halves b =
        rw (pair-no l v b, low-place l n s v i b, high-place l n s v i b, range-halves l n s v (omega arith))
        (halves-back (R (left v)) (R (right v)) (readings (left v)) (readings (right v)))

    abbrev hour_at : Node → ℤ
    hour_at u = hour_of n s (hour (start l u))

    pair-halves : suc v.level ≡ l → (left_of l T v (R v) ≡ R (left v)) × (right_of l T v (R v) ≡ R (right v))
    unfolding pair_code
    pair-halves h =
        rw (pair-yes l v h, code-place l n s v i h, range-halves l n s v (omega arith))
        (rw (hour-range l n s (left v) h, hour-range l n s (right v) h)
        (hours-back (hour_at (left v)) (hour_at (right v))))

    step-halves : v.level < l → (left_of l T v (R v) ≡ R (left v)) × (right_of l T v (R v) ≡ R (right v))
    step-halves b = ⊎_elim pair-halves details-halves (eq-or-lt_of_le b)

  module _ (o : 1 ≤ l) where
    root-range : root_range (coefficient_at T 0) (coefficient_at T 1) ≡ R root
    root-range = rw (root-low l n s o, root-high l n s o) (root-back (R root) (readings root))

    -- The law, by induction on the level.
    pub reached-range : (j k : ℕ) → j ≤ l → k < 2 ^ j → reached_at l T j k ≡ R (record { level = j; index = k })
    reached-range zero k le b =
        let e : k ≡ 0 = omega arith in
        rw e (unfold reached_at in root-range)
    reached-range (suc j) k le b =
        let b' : k / 2 < 2 ^ j = omega (arith, two-pow-succ j) in
        let v : Node = record { level = j; index = k / 2 } in
        let i : InTree l v = record { deep = omega arith; among = b' } in
        let up = reached-range j (k / 2) i.deep b' in
        ⊎_elim
        (λ e. rw (← e) (reached-left l T v ∙ rw up (step-halves v i le).0))
        (λ e. rw (← e) (reached-right l T v ∙ rw up (step-halves v i le).1))
        (even-or-odd k)
