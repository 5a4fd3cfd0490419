-- What stands at the places of the table of a series. Assumes nothing.
use Rattle.kit.proofs.{◌≡◌, ap, ◌∙◌, List, ℕ, suc, ◌+◌, ◌-◌, ◌*◌, ◌/◌, ◌%◌, ◌^◌, ◌≤◌, ◌<◌, arith, ℤ, pos, pow_pos}
use Rattle.kit.proofs.{pow_mono, eq-eqb, ne_eqb}
use Rattle.words.specs.{low_of, high_of}
use Rattle.om3.specs.Document.{up_from, hour, hour_of, Node, InTree, number, root, left, right, start, hours}
use Rattle.om3.specs.Document.{hour_range, look, range_of, Table, low_detail, high_detail, low_detail_of}
use Rattle.om3.specs.Document.{high_detail_of, coefficient, pair_code, code_of_place, table_of, coefficient_at}
use Rattle.om3.specs.Document.{low_detail_at, high_detail_at, code_at}
use Rattle.laws.proofs.{Lists.map-up-from-0, Ranges.both-empty}
use Rattle.laws.proofs.Nodes.{detail-room, pair-half, code-room, width-hour, node-of-number}

module _ (l n : ℕ) (s : List ℤ) where
  abbrev T : Table
  T = table_of l n s

  pub coefficient-place : (p : ℕ) → p < 2 ^ l → coefficient_at T p ≡ coefficient l n s p
  coefficient-place p h = map-up-from-0 (coefficient l n s) (pos 0) (2 ^ l) p h

  -- The root values stand at places 0 and 1.
  module _ (o : 1 ≤ l) where
    pub root-low : coefficient_at T 0 ≡ low_of (range_of l n s root)
    unfolding coefficient
    root-low = coefficient-place 0 (pow_pos l)

    pub root-high : coefficient_at T 1 ≡ high_of (range_of l n s root)
    unfolding coefficient
    root-high = coefficient-place 1 (pow_mono o)

  -- The details of a node that is not a pair stand at places 2i and 2i + 1.
  module _ (v : Node) (i : InTree l v) (b : suc v.level < l) where
    pub low-place : low_detail_at T (number v) ≡ low_detail (range_of l n s (left v)) (range_of l n s (right v))
    unfolding coefficient
    low-place =
        let p = 2 * (number v).0 in
        let two : 2 ≤ p = omega (arith, pow_pos v.level) in
        let z : p ≡ 0 → ⊥ = λ e. omega arith in
        let o : p ≡ 1 → ⊥ = λ e. omega arith in
        let even : p % 2 ≡ 0 = omega arith in
        let half : p / 2 ≡ (number v).0 = omega arith in
        coefficient-place p (omega (arith, detail-room l v i b))
        ∙ rw (ne_eqb p 0 z, ne_eqb p 1 o, eq-eqb _ _ even, half) (ap (low_detail_of l n s) (node-of-number l v i))

    pub high-place : high_detail_at T (number v) ≡ high_detail (range_of l n s (left v)) (range_of l n s (right v))
    unfolding coefficient
    high-place =
        let p = 2 * (number v).0 + 1 in
        let two : 2 ≤ p = omega (arith, pow_pos v.level) in
        let z : p ≡ 0 → ⊥ = λ e. omega arith in
        let o : p ≡ 1 → ⊥ = λ e. omega arith in
        let odd : p % 2 ≡ 0 → ⊥ = λ e. omega arith in
        let half : p / 2 ≡ (number v).0 = omega arith in
        coefficient-place p (detail-room l v i b)
        ∙ rw (ne_eqb p 0 z, ne_eqb p 1 o, ne_eqb _ _ odd, half) (ap (high_detail_of l n s) (node-of-number l v i))

  -- The code of pair i stands at place i − P/2.
  pub code-place : (v : Node) → InTree l v → suc v.level ≡ l → code_at l T (number v) ≡ pair_code l n s v
  code-place v i h =
      let e : (number v).0 - 2 ^ l / 2 + 2 ^ l / 2 ≡ (number v).0 = omega (arith, pair-half l v h) in
      map-up-from-0 (code_of_place l n s) 0 (2 ^ l / 2) _ (code-room l v i h)
      ∙ rw (e, node-of-number l v i)

  -- The range of a single hour is that of what it holds.
  pub hour-range : (v : Node) → v.level ≡ l → range_of l n s v ≡ hour_range (hour_of n s (hour (start l v)))
  unfolding range_of hours look up_from
  hour-range v z = rw (width-hour l v z) (both-empty (hour_range (hour_of n s (hour (start l v)))))
