-- In a sound table every range reached is one of readings, the ranges of a node's halves join to its own, and hours
-- come out as single readings or gaps, from hour n on as gaps. Assumes nothing.
use Rattle.kit.proofs.{◌≡◌, ◌∙◌, Bool, true, ◌&&◌, ⊎_elim, ℕ, zero, suc, ◌-◌, ◌/◌, ◌^◌, ◌≤◌, ◌<◌, two-pow-succ, Option}
use Rattle.kit.proofs.{eq-or-lt_of_le, arith, ℤ}
use Rattle.words.specs.{low_of, Readings, declared.Range.Range}
use Rattle.om3.specs.Document.{every, hour, Node, InTree, number, left, right, start, first_hour, hour_range, Table}
use Rattle.om3.specs.Document.{left_half, right_half, first_of_pair, second_of_pair, coefficient_at, low_detail_at}
use Rattle.om3.specs.Document.{high_detail_at, code_at, reached_at, reached, sound_root_values, sound_code, gap_from}
use Rattle.om3.specs.Document.{sound_pair, sound_node, table_nodes, sound_table}
use Rattle.laws.proofs.{NodeLists.each-in-table, SoundCodes.Coded, SoundCodes.coded, Tests.and_left, Tests.and_right}
use Rattle.laws.proofs.{Tests.even-or-odd, Nodes.pair-yes, Nodes.pair-no, Nodes.start-hour}
use Rattle.laws.proofs.Reached.{reached-left, reached-right}
use Rattle.laws.proofs.SoundDetails.{Halves, root-values, Details, details}

-- A single hour as it comes out: one reading or a gap, and from hour n on a gap.
pub record HourOut (n k : ℕ) (r : Option Range) : Type 0 where
  pub single : hour_range (low_of r) ≡ r
  pub late : gap_from n (hour k) r ≡ true

module _ (l n : ℕ) (t : Table) (ok : sound_table l n t ≡ true) where
  pub root-sound : sound_root_values (coefficient_at t 0) (coefficient_at t 1) ≡ true
  unfolding sound_table
  root-sound = and_left (sound_root_values (coefficient_at t 0) (coefficient_at t 1)) _ ok

  pub node-sound : (v : Node) → InTree l v → v.level < l → sound_node l n t v ≡ true
  unfolding sound_table
  node-sound v i b =
      each-in-table l (sound_node l n t)
      (and_right (sound_root_values (coefficient_at t 0) (coefficient_at t 1))
      (every (sound_node l n t) (table_nodes l)) ok)
      v i b

  -- One node, whose own range is one of readings.
  module _ (v : Node) (i : InTree l v) (p : Readings (reached l t v)) where
    -- The node is not a pair.
    module _ (h : suc v.level < l) where
      abbrev pub low : ℤ
      low = low_detail_at t (number v)

      abbrev pub high : ℤ
      high = high_detail_at t (number v)

      pub node-details : Details (reached l t v) low high
      unfolding sound_node
      node-details = details (reached l t v) _ _ p (rw (pair-no l v h) at (node-sound v i (omega arith)))

      pub left-details : reached l t (left v) ≡ left_half (reached l t v) low high
      left-details = reached-left l t v ∙ rw (pair-no l v h)

      pub right-details : reached l t (right v) ≡ right_half (reached l t v) low high
      right-details = reached-right l t v ∙ rw (pair-no l v h)

    -- The node is a pair.
    module _ (h : suc v.level ≡ l) where
      abbrev c : ℕ
      c = code_at l t (number v)

      pair-sound : sound_pair l n t v ≡ true
      unfolding sound_node
      pair-sound = let b : v.level < l = omega arith in rw (pair-yes l v h) at (node-sound v i b)

      abbrev C : Bool
      C = sound_code (reached l t v) c

      abbrev F : Bool
      F = gap_from n (first_hour l (left v)) (first_of_pair (reached l t v) c)

      abbrev S : Bool
      S = gap_from n (first_hour l (right v)) (second_of_pair (reached l t v) c)

      pub node-coded : Coded (reached l t v) c
      node-coded = coded (reached l t v) c p (and_left C F (and_left (C && F) S pair-sound))

      pub left-coded : reached l t (left v) ≡ first_of_pair (reached l t v) c
      left-coded = reached-left l t v ∙ rw (pair-yes l v h)

      pub right-coded : reached l t (right v) ≡ second_of_pair (reached l t v) c
      right-coded = reached-right l t v ∙ rw (pair-yes l v h)

      left_out : HourOut n (start l (left v)) (reached l t (left v))
      left_out =
          rw left-coded (record { single = node-coded.first; late = and_right C F (and_left (C && F) S pair-sound) })

      right-out : HourOut n (start l (right v)) (reached l t (right v))
      right-out = rw right-coded (record { single = node-coded.second; late = and_right (C && F) S pair-sound })

    pub node-halves : v.level < l → Halves (reached l t v) (reached l t (left v)) (reached l t (right v))
    node-halves b =
        ⊎_elim
        (λ h. rw (left-coded h, right-coded h) (node-coded h).halves)
        (λ h. rw (left-details h, right-details h) (node-details h).halves)
        (eq-or-lt_of_le b)

  -- Every range reached is one of readings, by induction on the level.
  readings-at : (j k : ℕ) → j ≤ l → k < 2 ^ j → Readings (reached_at l t j k)
  readings-at zero k le b =
      unfold reached_at in (root-values (coefficient_at t 0) (coefficient_at t 1) root-sound).readings
  readings-at (suc j) k le b =
      let b' : k / 2 < 2 ^ j = omega (arith, two-pow-succ j) in
      let v : Node = record { level = j; index = k / 2 } in
      let i : InTree l v = record { deep = omega arith; among = b' } in
      let two = node-halves v i (readings-at j (k / 2) i.deep b') le in
      ⊎_elim (λ e. rw (← e) two.readings-left) (λ e. rw (← e) two.readings-right) (even-or-odd k)

  pub readings-reached : (v : Node) → InTree l v → Readings (reached l t v)
  readings-reached v i = readings-at v.level v.index i.deep i.among

  pub halves-joined : (v : Node) → InTree l v → v.level < l
      → Halves (reached l t v) (reached l t (left v)) (reached l t (right v))
  halves-joined v i b = node-halves v i (readings-reached v i) b

  -- What comes out at hour k: it is a half of the pair k/2.
  pub hour-out : 1 ≤ l → (k : ℕ) → k < 2 ^ l → HourOut n k (reached_at l t l k)
  hour-out o k b =
      let h : suc (l - 1) ≡ l = omega arith in
      let v : Node = record { level = l - 1; index = k / 2 } in
      let b' : k < 2 ^ suc (l - 1) = rw h b in
      let i : InTree l v = record { deep = omega arith; among = omega (arith, two-pow-succ (l - 1)) } in
      let p = readings-reached v i in
      ⊎_elim
      (λ e. rw (← e) (rw (start-hour l (left v) h, h) at (left_out v i p h)))
      (λ e. rw (← e) (rw (start-hour l (right v) h, h) at (right-out v i p h)))
      (even-or-odd k)
