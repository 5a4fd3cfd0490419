-- What the walk from a node promises, for each way it can go on: the node is a single hour, it is unsound, or it is
-- sound and the walk goes on with the half that it takes. Assumes nothing.
use Rattle.kit.proofs.{◌≡◌, refl, sym, ap, ◌∙◌, Bool, true, false, List, ◌∷◌, ⊎_elim, ℕ, suc, ◌+◌, ◌-◌, ◌^◌, ◌≤◌, Some}
use Rattle.kit.proofs.{Err, None, Option, Result, ◌<◌, arith, ℤ, mag}
use Rattle.node.specs.Steps.{halves_as}
use Rattle.walking.specs.Walking.{walked_as, takes_left, towards, Walks, Small, WalkedFrom}
use Rattle.signed.proofs.{signed, reads-back}
use Rattle.words.specs.{low_of, Readings, declared.Reading.Reading}
use Rattle.words.specs.declared.{Column.Column, NodeId.NodeId, Range.Range}
use Rattle.om3.specs.Document.{Node, number, left, right, Table, lent, reached, in_order, sound_node, walk_nodes}
use Rattle.om3.specs.Document.{walk_end, reading_at}
use Rattle.laws.proofs.{Tests.below_or_not, Nodes.width-half, Nodes.start-hour, Intervals.width_some}
use Rattle.node.proofs.{Located.above-hours, Told.back}
use Rattle.node.specs.declared.Halves.{Halves}
use Rattle.examining.proofs.Answers.{Stepped, stepped, not-stepped}
use Rattle.stepping.specs.Nodes.{At, Below, is_pair_of, left_reached, right_reached}
use Rattle.stepping.specs.{Stepping.Steps, Stepping.SteppedDown, Stepping.SteppedFrom, declared.Reached.Reached}
use Rattle.stepping.proofs.Lending.{steps, some-hours, ends-within, left_below, right-below}
use Rattle.stepping.proofs.Touching.{left_at, right-at}
use Rattle.walking.specs.declared.{Towards.Towards, Walked.Walked}

not-came : {i : NodeId} {r : Reading} {m : ℕ} → Err i ≡ walked_as r m → ⊥
not-came e = let z : ◌≡◌ {A = ℕ} 0 1 = cc in omega arith

came_same : {r q : Reading} {m k : ℕ} → walked_as r m ≡ walked_as q k → (r ≡ q) × (m ≡ k)
came_same {r} {q} {m} {k} e =
    let same : ◌≡◌ {A = Walked} (record { reading = r; levels = m }) (record { reading = q; levels = k }) = cc in
    (ap (λ (w : Walked). w.reading) same, ap (λ (w : Walked). w.levels) same)

-- The half that is taken, by what is reached at both.
taken-left : (l : ℕ) (t : Table) (w : Towards) (v : Node)
    → takes_left w (reached l t (left v)) (reached l t (right v)) ≡ true → towards l t w v ≡ left v
taken-left l t Towards.First v e = rw e
taken-left l t Towards.Last v e = rw e

taken-right : (l : ℕ) (t : Table) (w : Towards) (v : Node)
    → takes_left w (reached l t (left v)) (reached l t (right v)) ≡ false → towards l t w v ≡ right v
taken-right l t Towards.First v e = rw e
taken-right l t Towards.Last v e = rw e

-- The low of a range of readings is small; so is the gap mark of an empty one.
small_low : (r : Option Range) → Readings r → Small (low_of r)
small_low None p = omega signed
small_low (Some r) p = omega signed

-- One level of a walk.
module _ (half : Node → Node) (h k : ℕ) (v u : Node) (more : h ≡ suc k) (takes : half v ≡ u) where
  walk_more : walk_nodes half h v ≡ v ∷ walk_nodes half k u
  unfolding walk_nodes
  walk_more = rw (more, takes)

  end_more : walk_end half h v ≡ walk_end half k u
  unfolding walk_end
  end_more = rw (more, takes)

module _ (n : ℕ) (cs : List ℤ) (ks : List ℕ) (w : Towards) where
  abbrev T : Table
  T = lent cs ks

  abbrev From : ℕ → Reached → Result Walked NodeId → Type 0
  From c at r = WalkedFrom n cs ks w c at r

  -- A single hour is its own end.
  module _ (c : ℕ) (at : Reached) (below : Below 1 cs ks at) (one : at.hours ≤ 1) where
    single : (l : ℕ) (v : Node) → At l T v at → v.level ≡ l
    single l v here =
        let covers = here.located.covers in
        let deep = here.located.in_tree.deep in
        let none : Column = record { from = at.from; upto = at.from } in
        ⊎_elim (λ h. absurd (omega (arith, width-half l v h, width_some l none (left v))))
        (λ h. omega arith)
        (below_or_not v.level l)

    abbrev reading : Reading
    reading = record { hour = at.from; grams = low_of at.range }

    reading-same : (l : ℕ) (v : Node) → At l T v at → reading ≡ reading_at l T v
    reading-same l v here =
        let index = sym here.located.begins ∙ start-hour l v (single l v here) in
        let low = ap low_of here.range in
        λ k. record { hour = record { 0 = index k }; grams = low k }

    pub hour-came : From c at (walked_as reading c)
    unfolding walk_nodes walk_end in_order
    hour-came =
        record {
          few = λ r m e. omega (arith, (came_same e).1, some-hours below);
          small = λ r m e. rw (sym (came_same e).0) (small_low at.range below.readings);
          walks = λ l v here.
              let z = single l v here in
              let none : l - v.level ≡ 0 = omega arith in
              record {
                examined = rw none;
                ends = λ r m e. rw none (sym (came_same e).0 ∙ reading-same l v here);
                counted = λ r m e. omega (arith, (came_same e).1);
              };
        }

  module _ (c : ℕ) (at : Reached) (two : 2 ≤ at.hours) where
    one_more : (l : ℕ) (v : Node) → At l T v at → l - v.level ≡ suc (l - suc v.level)
    one_more l v here = let h = above-hours here.located two in omega arith

    pub node-unsound : SteppedDown n cs ks at None → From c at (Err at.id)
    unfolding walk_nodes in_order
    node-unsound step =
        record {
          few = λ r m e. absurd (not-came e);
          small = λ r m e. absurd (not-came e);
          walks = λ l v here.
              let bad = not-stepped (sound_node l n T v) _ _ (sym (step.halves l v here)) in
              let same : number v ≡ at.id = ap (λ (k : ℕ). record { 0 = k }) here.located.numbered in
              record {
                examined = rw (one_more l v here, bad, same);
                ends = λ r m e. absurd (not-came e);
                counted = λ r m e. absurd (not-came e);
              };
        }

    -- A sound node: the walk from the half that is taken is the rest of it.
    module _ (a b : Option Range) (step : SteppedDown n cs ks at (halves_as a b)) where
      abbrev S : (l : ℕ) (v : Node) → At l T v at
          → Stepped (sound_node l n T v) (reached l T (left v)) (reached l T (right v)) a b
      S l v here =
          stepped (sound_node l n T v) (reached l T (left v)) (reached l T (right v)) (sym (step.halves l v here))

      goes_on : (l : ℕ) (v u : Node) → At l T v at → towards l T w v ≡ u
          → u.level ≡ suc v.level → (r : Result Walked NodeId) → Walks l n T w (c + 1) u r → Walks l n T w c v r
      unfolding in_order
      goes_on l v u here takes deeper r D =
          let more : l - v.level ≡ suc (l - u.level) = let h = above-hours here.located two in omega arith in
          record {
            examined =
                rw (walk_more (towards l T w) _ _ v u more takes, (S l v here).is_sound) D.examined;
            ends = λ q m e. D.ends q m e ∙ sym (ap (reading_at l T) (end_more (towards l T w) _ _ v u more takes));
            counted = λ q m e. omega (arith, D.counted q m e);
          }

      pub goes_left : takes_left w a b ≡ true → (r : Result Walked NodeId) → From (c + 1) (left_reached at a) r
          → From c at r
      goes_left takes r D =
          record {
            few = λ q m e. omega (arith, D.few q m e);
            small = D.small;
            walks = λ l v here.
                let s = S l v here in
                let e = taken-left l T w v (rw (s.first, s.second) at takes) in
                goes_on l v (left v) here e refl r (D.walks l (left v) (left_at here two s.first));
          }

      pub goes-right : takes_left w a b ≡ false → (r : Result Walked NodeId) → From (c + 1) (right_reached at b) r
          → From c at r
      goes-right takes r D =
          record {
            few = λ q m e. omega (arith, D.few q m e);
            small = D.small;
            walks = λ l v here.
                let s = S l v here in
                let e = taken-right l T w v (rw (s.first, s.second) at takes) in
                goes_on l v (right v) here e refl r (D.walks l (right v) (right-at here two s.second));
          }

  -- Where a walk has come to: a node that is lent, from which a walk is one from the start.
  pub record CameTo (start at : Reached) (c : ℕ) : Type 0 where
    pub below : Below 1 cs ks at
    pub room : c + at.hours ≤ start.hours
    pub rest : (r : Result Walked NodeId) → From c at r → From 0 start r

  pub at-start : (start : Reached) → Below 1 cs ks start → CameTo start start 0
  at-start start b = record { below = b; room = omega arith; rest = λ r d. d }

  -- From a node that the code has come to.
  module _ {start at : Reached} {c : ℕ} (came : CameTo start at c) where
    pub hour-read : at.hours ≤ 1 → {z : ℤ} → mag z < 2 ^ 31 → z ≡ low_of at.range
        → From 0 start (walked_as (record { hour = at.from; grams = back z }) c)
    hour-read one {z} fits e =
        came.rest _ (rw (reads-back z fits, e) (hour-came c at came.below one))

    module _ (two : 2 ≤ at.hours) where
      pub ends-early : at.from.0 + at.hours < 2 ^ 64
      ends-early = omega (arith, ends-within came.below)

      module _ {pair : Bool} (asked : pair ≡ is_pair_of at.hours) where
        pub steps-there : Steps cs ks at.id at.from pair at.range
        steps-there = rw asked (steps came.below two two)

        module _ {halves : Option Halves} (step : SteppedFrom n cs ks at.id at.from pair at.range halves) where
          pub unsound : halves ≡ None → From 0 start (Err at.id)
          unsound is = came.rest _ (node-unsound c at two (rw is at (step _ two asked)))

          module _ {a b : Option Range} (is : halves ≡ halves_as a b) {takes : Bool}
              (told : takes ≡ takes_left w a b) where
            abbrev down : SteppedDown n cs ks at (halves_as a b)
            down = rw is at (step _ two asked)

            pub came-left : {u : Reached} → takes ≡ true → u ≡ left_reached at a → CameTo start u (c + 1)
            came-left left-taken e =
                rw e
                (record {
                  below = left_below came.below two a (down.readings a b refl).0;
                  room = omega (arith, came.room);
                  rest = λ r d. came.rest r (goes_left c at two a b down (sym told ∙ left-taken) r d);
                })

            pub came-right : {u : Reached} → takes ≡ false → u ≡ right_reached at b → CameTo start u (c + 1)
            came-right right-taken e =
                rw e
                (record {
                  below = right-below came.below two b (down.readings a b refl).1;
                  room = omega (arith, came.room);
                  rest = λ r d. came.rest r (goes-right c at two a b down (sym told ∙ right-taken) r d);
                })
