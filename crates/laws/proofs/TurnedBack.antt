-- A sound table is the table of the hours that it turns back to. Assumes nothing.
use Rattle.kit.proofs.{◌≡◌, refl, sym, ap, ◌∙◌, true, List, ℕ, zero, suc, ◌+◌, ◌-◌, ◌/◌, ◌^◌, ◌≤◌, ◌<◌, arith, ltb, ℤ}
use Rattle.kit.proofs.{None, Option, Some, length, get_or, ltb-true}
use Rattle.signed.proofs.{clash}
use Rattle.words.specs.{gap, low_of, high_of}
use Rattle.words.specs.declared.{Range.Range}
use Rattle.om3.specs.Document.{hour, hour_of, Node, InTree, number, root, left, right, start, hour_range, is_empty}
use Rattle.om3.specs.Document.{range_of, Table, pair_code, code_of_place, table_of, coefficient_at, low_detail_at}
use Rattle.om3.specs.Document.{high_detail_at, code_at, reached_at, reached, turned_back, sound_table}
use Rattle.laws.proofs.{Tests.by-test, Lists.map-up-length, Lists.map-up-from-0, Levels.half_pow, Nodes.detail-places}
use Rattle.laws.proofs.{Ranges.low-hour, Ranges.range-halves, SoundDetails.root-values}
use Rattle.laws.proofs.Nodes.{root_in, left_in, right-in, start-hour, node-of-number}
use Rattle.laws.proofs.Places.{root-low, root-high, low-place, high-place, hour-range}
use Rattle.laws.proofs.SoundTables.{root-sound, node-details, left-details, right-details, node-coded, left-coded}
use Rattle.laws.proofs.SoundTables.{right-coded, readings-reached, halves-joined, hour-out}

-- What stands at hour k of what a table turns back to.
pub turned-length : (l : ℕ) (t : Table) (n : ℕ) → length (turned_back l t n) ≡ n
unfolding turned_back
turned-length l t n = map-up-length (λ k. low_of (reached_at l t l k)) 0 n

pub turned-at : (l : ℕ) (t : Table) (n k : ℕ) → k < n → get_or (turned_back l t n) k gap ≡ low_of (reached_at l t l k)
unfolding turned_back
turned-at l t n k b = map-up-from-0 (λ k. low_of (reached_at l t l k)) gap n k b

module _ (l n : ℕ) (t : Table) (ok : sound_table l n t ≡ true) (o : 1 ≤ l) where
  abbrev S : List ℤ
  S = turned_back l t n

  -- The range of each hour is what was reached there.
  hour-reached : (k : ℕ) → k < 2 ^ l → hour_range (hour_of n S (hour k)) ≡ reached_at l t l k
  unfolding hour_of
  hour-reached k b =
      let out = hour-out l n t ok o k b in
      by-test (ltb k n) (λ z. rw (z, turned-at l t n k (ltb-true k n z)) out.single)
      (λ z. rw z (emptied (reached_at l t l k) (rw z at out.late)))
    where
      emptied : (r : Option Range) → is_empty r ≡ true → None ≡ r
      emptied None z = refl
      emptied (Some r) z = clash z

  -- The range of each node is what was reached there, from the hours up.
  ranges-reached : (h : ℕ) (v : Node) → InTree l v → v.level + h ≡ l → range_of l n S v ≡ reached l t v
  ranges-reached zero v i e =
      let z : v.level ≡ l = omega arith in
      hour-range l n S v z
      ∙ rw (start-hour l v z) (hour-reached v.index (rw z at i.among))
      ∙ ap (λ (j : ℕ). reached_at l t j v.index) (sym z)
  ranges-reached (suc h) v i e =
      let b : v.level < l = omega arith in
      let e' : suc v.level + h ≡ l = omega arith in
      rw (
        range-halves l n S v b,
        ranges-reached h (left v) (left_in i b) e',
        ranges-reached h (right v) (right-in i b) e',
      )
      (halves-joined l n t ok v i b).joined

  pub range-reached : (v : Node) → InTree l v → range_of l n S v ≡ reached l t v
  range-reached v i = let d = i.deep in ranges-reached (l - v.level) v i (omega arith)

  -- The details of a node that is not a pair are those of the table.
  module _ (v : Node) (i : InTree l v) (h : suc v.level < l) where
    details-back : (low_detail_at (table_of l n S) (number v) ≡ low_detail_at t (number v))
        × (high_detail_at (table_of l n S) (number v) ≡ high_detail_at t (number v))
    details-back =
        let b : v.level < l = omega arith in
        let p = readings-reached l n t ok v i in
        let d = node-details l n t ok v i p h in
        let L = range-reached (left v) (left_in i b) ∙ left-details l n t ok v i p h in
        let R = range-reached (right v) (right-in i b) ∙ right-details l n t ok v i p h in
        (low-place l n S v i h ∙ rw (L, R) d.low, high-place l n S v i h ∙ rw (L, R) d.high)

  -- The code of a pair is that of the table.
  held_back : (u : Node) → InTree l u → u.level ≡ l → hour_of n S (hour (start l u)) ≡ low_of (reached l t u)
  held_back u i z =
      sym (low-hour (hour_of n S (hour (start l u)))) ∙ ap low_of (sym (hour-range l n S u z) ∙ range-reached u i)

  code_same : (v : Node) → InTree l v → suc v.level ≡ l → pair_code l n S v ≡ code_at l t (number v)
  unfolding pair_code
  code_same v i h =
      let b : v.level < l = omega arith in
      let p = readings-reached l n t ok v i in
      rw (
        held_back (left v) (left_in i b) h,
        held_back (right v) (right-in i b) h,
        left-coded l n t ok v i p h,
        right-coded l n t ok v i p h,
      )
      (node-coded l n t ok v i p h).back

  -- So is what stands at each place.
  root-same : range_of l n S root ≡ reached l t root
  root-same = range-reached root (root_in l)

  pub coefficient-same : (p : ℕ) → p < 2 ^ l → coefficient_at (table_of l n S) p ≡ coefficient_at t p
  unfolding reached_at
  coefficient-same zero b =
      root-low l n S o ∙ ap low_of root-same
      ∙ (root-values (coefficient_at t 0) (coefficient_at t 1) (root-sound l n t ok)).low
  coefficient-same (suc zero) b =
      root-high l n S o ∙ ap high_of root-same
      ∙ (root-values (coefficient_at t 0) (coefficient_at t 1) (root-sound l n t ok)).high
  coefficient-same (suc (suc p)) b =
      detail-places l (λ q. coefficient_at (table_of l n S) q ≡ coefficient_at t q) o details-back (suc (suc p))
      (omega arith) b

  pub codes_same : (p : ℕ) → p < 2 ^ l / 2 → code_of_place l n S p ≡ get_or t.codes p 0
  codes_same p b =
      let half : 2 ^ l / 2 ≡ 2 ^ (l - 1) = half_pow l o in
      let v : Node = record { level = l - 1; index = p } in
      let i : InTree l v = record { deep = omega arith; among = omega arith } in
      let e : p + 2 ^ l / 2 ≡ (number v).0 = omega arith in
      let d : (number v).0 - 2 ^ l / 2 ≡ p = omega arith in
      rw (e, node-of-number l v i) (code_same v i (omega arith) ∙ ap (λ (q : ℕ). get_or t.codes q 0) d)
