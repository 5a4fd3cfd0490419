-- What the examination below a node promises, at a pair and at a node of two halves, for each of its answers. Assumes
-- nothing.
use Rattle.kit.proofs.{◌≡◌, refl, sym, ap, ◌∙◌, Bool, ◌&&◌, List, map, map-append, ℕ, suc, ◌+◌, ◌-◌, ◌*◌}
use Rattle.kit.proofs.{Err, None, Ok, Option, Result, ◌/◌, ◌^◌, ◌≤◌, ◌<◌, arith, ℤ, pos, get_or, mag}
use Rattle.node.specs.Steps.{halves_as}
use Rattle.signed.proofs.{reads-back}
use Rattle.words.specs.{declared.NodeId.NodeId, declared.Range.Range, Readings}
use Rattle.om3.specs.Document.{hour, Node, number, left, right, start, Table, lent, left_half, right_half}
use Rattle.om3.specs.Document.{first_of_pair, second_of_pair, reached, Check, and_then, in_order, sound_details}
use Rattle.om3.specs.Document.{sound_code, gap_from, sound_node, nodes_below, examine_node, examine_nodes}
use Rattle.node.specs.{Located.Located, Steps.halves_of}
use Rattle.laws.proofs.Nodes.{pair-yes, pair-no, pair-half, start-hour}
use Rattle.node.proofs.Located.{above-hours, above-pairs, at_pair, pair-width, left-located, right-located}
use Rattle.node.proofs.Told.{back}
use Rattle.laws.proofs.{Reached.reached-left, Reached.reached-right, SoundDetails.details, Examined.in-order-append}
use Rattle.laws.proofs.{Examined.then-passes}
use Rattle.node.specs.declared.Halves.{Halves}
use Rattle.examining.specs.Examining.{check_of, pair_at, Examined, PairExamined, PairsExamined}
use Rattle.examining.proofs.Answers.{Stepped, stepped, not-stepped}

-- The halves of a sound node that is not a pair are ranges of readings.
halves-readings : (r : Option Range) (d e : ℤ) → Readings r → {a b : Option Range} → halves_of r d e ≡ halves_as a b
    → Readings a × Readings b
halves-readings r d e p h =
    let s = stepped (sound_details r d e) (left_half r d e) (right_half r d e) h in
    let halves = (details r d e p s.is_sound).halves in
    (rw s.first halves.readings-left, rw s.second halves.readings-right)

module _ (r : Option Range) (cs : List ℤ) (i : ℕ) (p : Readings r) {a b : Option Range}
    (h : halves_of r (get_or cs (2 * i) (pos 0)) (get_or cs (2 * i + 1) (pos 0)) ≡ halves_as a b) where
  pub left-readings : Readings a
  left-readings = (halves-readings r (get_or cs (2 * i) (pos 0)) (get_or cs (2 * i + 1) (pos 0)) p h).0

  pub right-readings : Readings b
  right-readings = (halves-readings r (get_or cs (2 * i) (pos 0)) (get_or cs (2 * i + 1) (pos 0)) p h).1

-- The step down from node i, for details that were read back from their bits.
pub details-told : (r : Option Range) (cs : List ℤ) (i : ℕ) {x : Option Halves}
    → (let d = get_or cs (2 * i) (pos 0) in let e = get_or cs (2 * i + 1) (pos 0) in
    x ≡ halves_of r (back d) (back e) → mag d < 2 ^ 31 → mag e < 2 ^ 31 → x ≡ halves_of r d e)
details-told r cs i s dm em =
    rw (reads-back (get_or cs (2 * i) (pos 0)) dm, reads-back (get_or cs (2 * i + 1) (pos 0)) em) at s

-- What a step down answered: its halves are ranges of readings.
module _ {x : Option Halves} (r : Option Range) (d e : ℤ) {a b : Option Range} (is : x ≡ halves_as a b)
    (s : x ≡ halves_of r d e)
    (p : Readings r) where
  pub left-told : Readings a
  left-told = (halves-readings r d e p (sym s ∙ is)).0

  pub right-told : Readings b
  right-told = (halves-readings r d e p (sym s ∙ is)).1

same_number : {l : ℕ} {v : Node} {f w : ℕ} (i : NodeId) → Located l v i.0 f w → number v ≡ i
same_number i at = ap (λ (k : ℕ). record { 0 = k }) at.numbered

-- A pair, and where its code stands.
module _ {l : ℕ} {v : Node} {i f w : ℕ} (at : Located l v i f w) (two : 2 ≤ w) (four : w < 4) where
  pub one-level : l - v.level ≡ 1
  one-level = let p = at_pair at two four in omega arith

  pub first-index : 2 * v.index ≡ f
  first-index = sym (start-hour l (left v) (at_pair at two four)) ∙ (left-located at two).begins

  pub code-index : (number v).0 - 2 ^ l / 2 ≡ f / 2
  code-index = omega (arith, pair-half l v (at_pair at two four), first-index)

-- Whether a pair is sound: its code fits, and no hour from n on comes out as a reading.
module _ (n : ℕ) (ks : List ℕ) (f : ℕ) (range : Option Range) where
  abbrev code : ℕ
  code = get_or ks (f / 2) 0

  abbrev pair_is_sound : Bool
  pair_is_sound =
      sound_code range code && gap_from n (hour f) (first_of_pair range code)
      && gap_from n (hour (f + 1)) (second_of_pair range code)

module _ (n : ℕ) (cs : List ℤ) (ks : List ℕ) (i : NodeId) (f w : ℕ) (range : Option Range) where
  abbrev T : Table
  T = lent cs ks

  -- At a pair.
  module _ (two : 2 ≤ w) (four : w < 4) where
    abbrev is_sound : Bool
    is_sound = pair_is_sound n ks f range

    module _ (l : ℕ) (v : Node) (at : Located l v i.0 f w) (e : range ≡ reached l T v) where
      pub sound-pair : sound_node l n T v ≡ is_sound
      unfolding sound_node
      sound-pair =
          let first : start l (left v) ≡ f = (left-located at two).begins in
          let second : start l (right v) ≡ f + 1 = omega (arith, (right-located at two).begins) in
          rw (pair-yes l v (at_pair at two four), first, second, code-index at two four, ← e)

      pair-alone : examine_nodes l n T (nodes_below (l - v.level) v) ≡ examine_node i is_sound
      unfolding nodes_below in_order
      pair-alone = rw (one-level at two four, sound-pair, same_number i at) (then-passes (examine_node i is_sound))

    pair-examined : (r : Result Unit NodeId) → check_of r ≡ examine_node i is_sound → Examined n cs ks i f w range r
    pair-examined r e = record { below = λ l v at g. e ∙ sym (pair-alone l v at g) }

    pub as-pair : (r : Result Unit NodeId) → PairExamined n ks i f range r → Examined n cs ks i f w range r
    as-pair r E = E.pair cs w two four

  -- At a node of two halves.
  module _ (wide : 4 ≤ w) where
    abbrev d : ℤ
    d = get_or cs (2 * i.0) (pos 0)

    abbrev e : ℤ
    e = get_or cs (2 * i.0 + 1) (pos 0)

    abbrev two : 2 ≤ w
    two = omega arith

    module _ (l : ℕ) (v : Node) (at : Located l v i.0 f w) (g : range ≡ reached l T v) where
      pub sound-node : sound_node l n T v ≡ sound_details range d e
      unfolding sound_node
      sound-node = rw (pair-no l v (above-pairs at wide), at.numbered, ← g)

      abbrev below : Node → Check
      below u = examine_nodes l n T (nodes_below (l - suc v.level) u)

      node-then : examine_nodes l n T (nodes_below (l - v.level) v)
          ≡ and_then (examine_node i (sound_details range d e)) (and_then (below (left v)) (below (right v)))
      unfolding nodes_below in_order
      node-then =
          let m : l - v.level ≡ suc (l - suc v.level) = let p = above-hours at two in omega arith in
          let L = nodes_below (l - suc v.level) (left v) in
          let R = nodes_below (l - suc v.level) (right v) in
          rw (m, sound-node, same_number i at)
          (ap (and_then (examine_node i (sound_details range d e)))
          (ap in_order (map-append (λ u. examine_node (number u) (sound_node l n T u)) L R)
          ∙ in-order-append (map (λ u. examine_node (number u) (sound_node l n T u)) L) _))

    pub details-unsound : {x : Option Halves} → x ≡ None → x ≡ halves_of range d e
        → Examined n cs ks i f w range (Err i)
    details-unsound is s =
        let u = not-stepped (sound_details range d e) (left_half range d e) (right_half range d e) (sym s ∙ is) in
        record { below = λ l v at g. sym (node-then l v at g ∙ rw u) }

    module _ {x : Option Halves} (a b : Option Range) (is : x ≡ halves_as a b) (s : x ≡ halves_of range d e)
        (r : Result Unit NodeId)
        (L : Examined n cs ks (record { 0 = 2 * i.0 }) f (w / 2) a r) where
      abbrev H : Stepped (sound_details range d e) (left_half range d e) (right_half range d e) a b
      H = stepped (sound_details range d e) (left_half range d e) (right_half range d e) (sym s ∙ is)

      module _ (l : ℕ) (v : Node) (at : Located l v i.0 f w) (g : range ≡ reached l T v) where
        left-reached : a ≡ reached l T (left v)
        left-reached =
            rw (reached-left l T v, pair-no l v (above-pairs at wide), at.numbered, ← g) H.first

        right-reached : b ≡ reached l T (right v)
        right-reached =
            rw (reached-right l T v, pair-no l v (above-pairs at wide), at.numbered, ← g) H.second

        halves-then : and_then (check_of r) (below l v at g (right v))
            ≡ examine_nodes l n T (nodes_below (l - v.level) v)
        halves-then =
            sym (node-then l v at g
            ∙ rw (H.is_sound, ← L.below l (left v) (left-located at two) left-reached))

      pub left-unsound : (k : NodeId) → r ≡ Err k → Examined n cs ks i f w range (Err k)
      left-unsound k z = record { below = λ l v at g. rw z at (halves-then l v at g) }

      pub then-right : r ≡ Ok tt → (q : Result Unit NodeId)
          → Examined n cs ks (record { 0 = 2 * i.0 + 1 }) (f + w / 2) (w / 2) b q → Examined n cs ks i f w range q
      then-right z q R =
          record {
            below = λ l v at g.
                R.below l (right v) (right-located at two) (right-reached l v at g) ∙ rw z at (halves-then l v at g);
          }

    -- The halves are pairs.
    module _ {x : Option Halves} (a b : Option Range) (is : x ≡ halves_as a b) (s : x ≡ halves_of range d e)
        (eight : w < 8) where
      abbrev left_pair : NodeId
      left_pair = record { 0 = 2 * i.0 }

      abbrev right_pair : NodeId
      right_pair = record { 0 = 2 * i.0 + 1 }

      right-pair : (q : Result Unit NodeId) → PairExamined n ks right_pair (f + 2) b q
          → Examined n cs ks right_pair (f + w / 2) (w / 2) b q
      right-pair q E =
          record {
            below = λ l v at.
                let half : w / 2 ≡ 2 = pair-width at (omega arith) (omega arith) in
                (E.pair cs 2 (omega arith) (omega arith)).below l v (rw half at at);
          }

      pub pairs-examined : (q : Result Unit NodeId) → PairsExamined n ks left_pair f a b q
          → Examined n cs ks i f w range q
      pairs-examined q E =
          by E.found (E.first.pair cs (w / 2) (omega arith) (omega arith)) E.refused E.second
        where
          by : (r : Result Unit NodeId) → Examined n cs ks left_pair f (w / 2) a r
              → ((k : NodeId) → r ≡ Err k → q ≡ Err k)
              → (r ≡ Ok tt → PairExamined n ks right_pair (f + 2) b q) → Examined n cs ks i f w range q
          by (Ok u) L kept further = then-right a b is s (Ok tt) L refl q (right-pair q (further refl))
          by (Err k) L kept further = rw (kept k refl) (left-unsound a b is s (Err k) L k refl)

-- The two answers of a pair.
module _ (n : ℕ) (ks : List ℕ) (i : NodeId) (f : ℕ) (range : Option Range) {x : Option Halves}
    (s : x ≡ pair_at n ks f range) where
  abbrev first : Option Range
  first = first_of_pair range (get_or ks (f / 2) 0)

  abbrev second : Option Range
  second = second_of_pair range (get_or ks (f / 2) 0)

  pub pair-unsound : x ≡ None → PairExamined n ks i f range (Err i)
  pair-unsound is =
      let u = not-stepped (pair_is_sound n ks f range) first second (sym s ∙ is) in
      record { pair = λ cs w two four. pair-examined n cs ks i f w range two four (Err i) (rw u) }

  pub pair-sound : (a b : Option Range) → x ≡ halves_as a b → PairExamined n ks i f range (Ok tt)
  pair-sound a b is =
      let u = (stepped (pair_is_sound n ks f range) first second (sym s ∙ is)).is_sound in
      record { pair = λ cs w two four. pair-examined n cs ks i f w range two four (Ok tt) (rw u) }
