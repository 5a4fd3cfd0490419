-- A node's halves: their numbers, their hours, and which nodes are pairs. Assumes nothing.
use Rattle.kit.proofs.{◌≡◌, refl, sym, ap, ◌∙◌, true, false, ◌++◌, map-append, ⊎_elim, ℕ, zero, suc, ◌+◌, ◌-◌, ◌*◌, ◌/◌}
use Rattle.kit.proofs.{◌^◌, ◌≤◌, ◌<◌, two-pow-succ, mul-add, add-mul, eq-or-lt_of_le, arith, pow_mono, le-leb, lt-leb}
use Rattle.kit.proofs.{eq-eqb, ne_eqb}
use Rattle.words.specs.declared.NodeId.{NodeId}
use Rattle.om3.specs.Document.{up_from, hour, Node, InTree, number, root, left, right, is_pair, width, start, hours}
use Rattle.om3.specs.Document.{level_of, node_of}
use Rattle.laws.proofs.{Tests.below_or_not, Tests.even-or-odd, Lists.up-append, Levels.half_pow}

pub root_in : (l : ℕ) → InTree l root
root_in l = record { deep = omega arith; among = omega arith }

module _ {l : ℕ} {v : Node} (i : InTree l v) (b : v.level < l) where
  pub left_in : InTree l (left v)
  left_in = record { deep = b; among = omega (arith, i.among, two-pow-succ v.level) }

  pub right-in : InTree l (right v)
  right-in = record { deep = b; among = omega (arith, i.among, two-pow-succ v.level) }

-- Node i has halves 2i and 2i + 1. [hours 8]
pub number-left : (v : Node) → (number (left v)).0 ≡ 2 * (number v).0
number-left v = omega (arith, two-pow-succ v.level)

pub number-right : (v : Node) → (number (right v)).0 ≡ 2 * (number v).0 + 1
number-right v = omega (arith, two-pow-succ v.level)

pub pair-yes : (l : ℕ) (v : Node) → suc v.level ≡ l → is_pair l v ≡ true
pair-yes l v h = eq-eqb v.level (l - 1) (omega arith)

pub pair-no : (l : ℕ) (v : Node) → suc v.level < l → is_pair l v ≡ false
pair-no l v h = ne_eqb v.level (l - 1) (λ e. omega arith)

-- The details of a node that is not a pair stand below place 2^l, the code of a pair below place 2^l/2.
pub detail-room : (l : ℕ) (v : Node) → InTree l v → suc v.level < l → 2 * (number v).0 + 1 < 2 ^ l
detail-room l v i b = omega (arith, i.among, two-pow-succ v.level, two-pow-succ (suc v.level), pow_mono b)

pub pair-half : (l : ℕ) (v : Node) → suc v.level ≡ l → 2 ^ l / 2 ≡ 2 ^ v.level
pair-half l v h = half_pow l (omega arith) ∙ ap (λ (j : ℕ). 2 ^ j) (omega arith)

pub code-room : (l : ℕ) (v : Node) → InTree l v → suc v.level ≡ l → (number v).0 - 2 ^ l / 2 < 2 ^ l / 2
code-room l v i h = omega (arith, i.among, pair-half l v h)

-- Node 1 covers all hours.
pub start-root : (l : ℕ) → start l root ≡ 0
unfolding start
start-root l = omega arith

pub width-root : (l : ℕ) → width l root ≡ 2 ^ l
unfolding width
width-root l =
    let z : l - 0 ≡ l = omega arith in
    rw z

twice : (k h : ℕ) → k * 2 ^ suc h ≡ 2 * k * 2 ^ h
twice k h =
    let e : 2 * k ≡ k + k = omega arith in
    ap (λ (p : ℕ). k * p) (two-pow-succ h) ∙ mul-add k (2 ^ h) (2 ^ h)
    ∙ sym (ap (λ (p : ℕ). p * 2 ^ h) e ∙ add-mul k k (2 ^ h))

module _ (l : ℕ) (v : Node) (b : v.level < l) where
  one_more : l - v.level ≡ suc (l - suc v.level)
  one_more = omega arith

  pub width-half : width l v ≡ width l (left v) + width l (left v)
  unfolding width
  width-half = rw one_more (two-pow-succ (l - suc v.level))

  pub start_left : start l (left v) ≡ start l v
  unfolding start
  start_left = rw one_more (sym (twice v.index (l - suc v.level)))

  pub width-right : width l (right v) ≡ width l (left v)
  unfolding width
  width-right = refl

  pub start_right : start l (right v) ≡ start l v + width l (left v)
  unfolding start width
  start_right = omega (arith, start_left, add-mul (2 * v.index) 1 (2 ^ (l - suc v.level)))

  -- A node's hours are its halves' hours, the left half's first.
  pub hours-halves : hours l v ≡ hours l (left v) ++ hours l (right v)
  unfolding hours
  hours-halves =
      let f = start l v in
      let w = width l (left v) in
      rw (width-half, width-right, start_left, start_right, up-append f w w)
      (map-append hour (up_from f w) (up_from (f + w) w))

-- A single hour: node k of level l covers hour k.
module _ (l : ℕ) (v : Node) (z : v.level ≡ l) where
  pub width-hour : width l v ≡ 1
  unfolding width
  width-hour = let e : l - v.level ≡ 0 = omega arith in rw e

  pub start-hour : start l v ≡ v.index
  unfolding start
  start-hour = let e : l - v.level ≡ 0 = omega arith in rw e (omega arith)

-- The level of a number between 2^j and 2^(j+1) is j.
level-is : (l j : ℕ) (i : NodeId) → j ≤ l → 2 ^ j ≤ i.0 → i.0 < 2 ^ suc j → level_of l i ≡ j
unfolding level_of
level-is zero j i le lo hi = omega arith
level-is (suc l) j i le lo hi =
    ⊎_elim (λ e. let t : 2 ^ suc l ≤ i.0 = rw e at lo in rw (le-leb _ _ t) (sym e))
    (λ s.
    let s' : suc j ≤ suc l = omega arith in
    let t : i.0 < 2 ^ suc l = omega (arith, pow_mono s') in
    rw (lt-leb _ _ t) (level-is l j i (omega arith) lo hi))
    (eq-or-lt_of_le le)

-- The node that has a node's number is that node.
pub node-of-number : (l : ℕ) (v : Node) → InTree l v → node_of l (number v) ≡ v
node-of-number l v i =
    let lo : 2 ^ v.level ≤ (number v).0 = omega arith in
    let hi : (number v).0 < 2 ^ suc v.level = omega (arith, i.among, two-pow-succ v.level) in
    let e : level_of l (number v) ≡ v.level = level-is l v.level (number v) i.deep lo hi in
    let d : (number v).0 - 2 ^ v.level ≡ v.index = omega arith in
    rw (e, d)

-- Each number from 1 to 2^l − 1 is that of a node above the hours.
pub record Numbered (l m : ℕ) : Type 0 where
  pub node : Node
  pub above : node.level < l
  pub low : node.index < 2 ^ node.level
  pub numbered : (number node).0 ≡ m

pub numbered : (l m : ℕ) → 1 ≤ m → m < 2 ^ l → Numbered l m
numbered zero m some most = absurd (omega arith)
numbered (suc l) m some most =
    ⊎_elim
    (λ b.
    let r = numbered l m some b in
    record { node = r.node; above = omega (arith, r.above); low = r.low; numbered = r.numbered })
    (λ b.
    record {
      node = record { level = l; index = m - 2 ^ l };
      above = omega arith;
      low = omega (arith, two-pow-succ l);
      numbered = omega arith;
    })
    (below_or_not m (2 ^ l))

-- Each place from 2 up to 2^l − 1 is that of a low or of a high detail of a node that is not a pair: what holds of the
-- details of all these nodes holds of all these places.
pub detail-places : (l : ℕ) (P : ℕ → Type 0) → 1 ≤ l
    → ((v : Node) → InTree l v → suc v.level < l → P (2 * (number v).0) × P (2 * (number v).0 + 1))
    → (p : ℕ) → 2 ≤ p → p < 2 ^ l → P p
detail-places l P o each p two b =
    let e : l ≡ suc (l - 1) = omega arith in
    let b' : p < 2 ^ suc (l - 1) = rw e at b in
    let w = numbered (l - 1) (p / 2) (omega arith) (omega (arith, two-pow-succ (l - 1))) in
    let i : InTree l w.node = record { deep = omega (arith, w.above); among = w.low } in
    let holds = each w.node i (omega (arith, w.above)) in
    ⊎_elim
    (λ z. let y : 2 * (number w.node).0 ≡ p = omega (arith, w.numbered) in rw (← y) holds.0)
    (λ z. let y : 2 * (number w.node).0 + 1 ≡ p = omega (arith, w.numbered) in rw (← y) holds.1)
    (even-or-odd p)
