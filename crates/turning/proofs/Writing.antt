-- What writing the hours below a node promises, at a pair and at a node of two halves. Assumes nothing.
use Rattle.kit.proofs.{◌≡◌, sym, ap, ◌∙◌, true, List, ℕ, suc, ◌+◌, ◌-◌, ◌*◌, ◌/◌, ◌≤◌, ◌<◌, arith, ℤ, pos, get_or, set}
use Rattle.kit.proofs.{None, Option}
use Rattle.node.specs.Steps.{halves_as}
use Rattle.signed.proofs.{clash}
use Rattle.words.specs.{low_of}
use Rattle.words.specs.declared.Range.{Range}
use Rattle.om3.specs.Document.{every, Node, left, right, Table, lent, left_half, right_half, first_of_pair}
use Rattle.om3.specs.Document.{second_of_pair, reached, sound_details, sound_code, sound_node, nodes_below}
use Rattle.node.specs.{Located.Located, Steps.halves_of, Steps.pair_of}
use Rattle.laws.proofs.{Tests.and_left, Tests.and_right, Nodes.pair-yes, Nodes.pair-no, Reached.reached-left}
use Rattle.laws.proofs.{Reached.reached-right, NodeLists.every_append}
use Rattle.node.proofs.Located.{one_more, above-pairs, at_pair, left-located, right-located}
use Rattle.node.specs.declared.Halves.{Halves}
use Rattle.turning.specs.Turning.{with_hours, Written, PairWritten}
use Rattle.examining.proofs.Answers.{Stepped, stepped, not-stepped}
use Rattle.examining.proofs.Examining.{one-level, first-index, code-index}

module _ (cs : List ℤ) (ks : List ℕ) (i f w : ℕ) (range : Option Range) (out : List ℤ) where
  abbrev T : Table
  T = lent cs ks

  -- At a pair.
  module _ (two : 2 ≤ w) (four : w < 4) where
    abbrev c : ℕ
    c = get_or ks (f / 2) 0

    module _ (l n : ℕ) (v : Node) (at : Located l v i f w) (g : range ≡ reached l T v) where
      code-sound : every (sound_node l n T) (nodes_below (l - v.level) v) ≡ true → sound_code range c ≡ true
      unfolding nodes_below every sound_node
      code-sound ok =
          let s = rw (one-level at two four, pair-yes l v (at_pair at two four), code-index at two four, ← g) at ok in
          and_left (sound_code range c) _ (and_left _ _ (and_left _ _ s))

      pair-hours : set (set out f (low_of (first_of_pair range c))) (f + 1) (low_of (second_of_pair range c))
          ≡ with_hours l T (l - v.level) v out
      unfolding with_hours
      pair-hours =
          let p = pair-yes l v (at_pair at two four) in
          rw (one-level at two four, reached-left l T v, reached-right l T v, p, code-index at two four)
          (rw (← g, first-index at two four))

    pub as-pair : (out' : List ℤ) → PairWritten ks f range out out' → Written cs ks i f w range out out'
    as-pair out' W = W.pair cs i w two four

  -- At a node of two halves.
  module _ (wide : 4 ≤ w) where
    abbrev d : ℤ
    d = get_or cs (2 * i) (pos 0)

    abbrev e : ℤ
    e = get_or cs (2 * i + 1) (pos 0)

    abbrev two : 2 ≤ w
    two = omega arith

    -- The node is sound, and so are all below its halves.
    record AllSound (l n : ℕ) (v : Node) : Type 0 where
      node : sound_details range d e ≡ true
      below_left : every (sound_node l n T) (nodes_below (l - suc v.level) (left v)) ≡ true
      below_right : every (sound_node l n T) (nodes_below (l - suc v.level) (right v)) ≡ true

    module _ (l n : ℕ) (v : Node) (at : Located l v i f w) (g : range ≡ reached l T v) where
      all_sound : every (sound_node l n T) (nodes_below (l - v.level) v) ≡ true → AllSound l n v
      unfolding nodes_below every
      all_sound ok =
          let L = nodes_below (l - suc v.level) (left v) in
          let R = nodes_below (l - suc v.level) (right v) in
          let s = rw (one_more at two) at ok in
          let q = sym (every_append (sound_node l n T) L R) ∙ and_right (sound_node l n T v) _ s in
          record {
            node = unfold sound_node in
                rw (pair-no l v (above-pairs at wide), at.numbered, ← g) at (and_left (sound_node l n T v) _ s);
            below_left = and_left (every (sound_node l n T) L) _ q;
            below_right = and_right (every (sound_node l n T) L) _ q;
          }

    pub node-not-written : {x : Option Halves} → x ≡ None → x ≡ halves_of range d e
        → Written cs ks i f w range out out
    node-not-written is s =
        record {
          below = λ l n v at g ok. clash (sym (not-stepped _ _ _ (sym s ∙ is)) ∙ (all_sound l n v at g ok).node);
        }

    module _ {x : Option Halves} (a b : Option Range) (is : x ≡ halves_as a b) (s : x ≡ halves_of range d e)
        (out₁ out₂ : List ℤ) (L : Written cs ks (2 * i) f (w / 2) a out out₁)
        (R : Written cs ks (2 * i + 1) (f + w / 2) (w / 2) b out₁ out₂) where
      abbrev H : Stepped (sound_details range d e) (left_half range d e) (right_half range d e) a b
      H = stepped (sound_details range d e) (left_half range d e) (right_half range d e) (sym s ∙ is)

      halves-written : (l n : ℕ) (v : Node) → Located l v i f w → range ≡ reached l T v
          → every (sound_node l n T) (nodes_below (l - v.level) v) ≡ true → out₂ ≡ with_hours l T (l - v.level) v out
      unfolding with_hours
      halves-written l n v at g ok =
          let p = pair-no l v (above-pairs at wide) in
          let s = all_sound l n v at g ok in
          let x : a ≡ reached l T (left v) = rw (reached-left l T v, p, at.numbered, ← g) H.first in
          let y : b ≡ reached l T (right v) = rw (reached-right l T v, p, at.numbered, ← g) H.second in
          rw (one_more at two)
          (R.below l n (right v) (right-located at two) y s.below_right
          ∙ ap (with_hours l T (l - suc v.level) (right v))
          (L.below l n (left v) (left-located at two) x s.below_left))

      pub node-written : Written cs ks i f w range out out₂
      node-written = record { below = halves-written }

    -- The halves are pairs.
    pub pairs-written : {x : Option Halves} (a b : Option Range) → x ≡ halves_as a b → x ≡ halves_of range d e
        → (out₁ out₂ : List ℤ) → PairWritten ks f a out out₁ → PairWritten ks (f + w / 2) b out₁ out₂ → w < 8
        → Written cs ks i f w range out out₂
    pairs-written a b is s out₁ out₂ L R eight =
        node-written a b is s out₁ out₂ (L.pair cs (2 * i) (w / 2) (omega arith) (omega arith))
        (R.pair cs (2 * i + 1) (w / 2) (omega arith) (omega arith))

-- The two answers of a pair's step.
module _ (ks : List ℕ) (f : ℕ) (range : Option Range) (out : List ℤ) {x : Option Halves}
    (s : x ≡ pair_of range (get_or ks (f / 2) 0)) where
  pub pair-not-written : x ≡ None → PairWritten ks f range out out
  pair-not-written is =
      let u = not-stepped _ _ _ (sym s ∙ is) in
      record {
        pair = λ cs i w two four.
            record { below = λ l n v at g ok. clash (sym u ∙ code-sound cs ks i f w range out two four l n v at g ok) };
      }

  pub pair-written : (a b : Option Range) → x ≡ halves_as a b → {out₁ out₂ : List ℤ} → out₁ ≡ set out f (low_of a)
      → out₂ ≡ set out₁ (f + 1) (low_of b) → PairWritten ks f range out out₂
  pair-written a b is p q =
      let c = get_or ks (f / 2) 0 in
      let u = stepped (sound_code range c) (first_of_pair range c) (second_of_pair range c) (sym s ∙ is) in
      rw (q, p, u.first, u.second)
      (record {
        pair = λ cs i w two four.
            record { below = λ l n v at g ok. pair-hours cs ks i f w range out two four l n v at g };
      })
