-- What the visit below a node promises, for each way it can go on: the node is not opened, it is unsound, or it is
-- sound and both its halves are visited, one of which may add nothing. Assumes nothing.
use Rattle.kit.proofs.{◌≡◌, refl, sym, ap, ◌∙◌, true, false, ◌&&◌, List, [], ◌∷◌, ◌++◌, map, map-append, ℕ, suc, ◌+◌}
use Rattle.kit.proofs.{Option, Err, None, Ok, Result, ◌-◌, ◌≤◌, arith, ℤ, length-append}
use Rattle.node.specs.Steps.{halves_as}
use Rattle.words.specs.declared.{Column.Column, NodeId.NodeId, Range.Range}
use Rattle.om3.specs.Document.{keep, Node, number, left, right, Table, lent, reached, Check, and_then, in_order}
use Rattle.om3.specs.Document.{sound_node, nodes_below, examine_node, examine_nodes, has_reading, shares, inside}
use Rattle.om3.specs.Document.{opened, visited, is_outer, is_inner}
use Rattle.node.proofs.Located.{one_more}
use Rattle.laws.proofs.{Examined.in-order-append, BelowOpened.inner-kept, BelowOpened.inner-end, BelowOpened.outer-end}
use Rattle.laws.proofs.BelowOpened.{visited-left, visited-right, opened-kept, unopened-kept, outer-kept, range-append}
use Rattle.examining.proofs.Answers.{Stepped, stepped, not-stepped}
use Rattle.stepping.specs.Nodes.{At, Below, left_reached, right_reached, touches_of, inside_of, opened_of, StopsAt}
use Rattle.stepping.specs.{Stepping.SteppedDown, declared.Reached.Reached}
use Rattle.stepping.proofs.Lending.{some-hours, left_below, right-below}
use Rattle.stepping.proofs.Touching.{touches-is, inside_is, opened-is, left_at, right-at}
use Rattle.sight.specs.{Seen.unopened_of, Seen.both_seen, Seen.seen_of, declared.Seen.Seen}
use Rattle.sight.proofs.SeenTogether.{seen_same, inner-append, inner-alone, outer-alone, nothing-before, nothing-after}
use Rattle.sight.proofs.SeenTogether.{alone-below, both_below}
use Rattle.visiting.specs.Visiting.{visit_check, Visits, VisitedFrom}

through_same : {a b : Seen} → ◌≡◌ {A = Result Seen NodeId} (Ok a) (Ok b) → a ≡ b
through_same e = cc

pub not_through : {i : NodeId} {s : Seen} → Err i ≡ Ok s → ⊥
not_through e = let z : ◌≡◌ {A = ℕ} 0 1 = cc in omega arith

module _ (n : ℕ) (cs : List ℤ) (ks : List ℕ) (x : Column) (stop : ℕ) where
  abbrev T : Table
  T = lent cs ks

  abbrev From : ℕ → Reached → Result Seen NodeId → Type 0
  From c at r = VisitedFrom n cs ks x stop c at r

  -- A visit that says of a node that it is unsound saw nothing.
  says-unsound : {c : ℕ} {at : Reached} {i : NodeId}
      → ((l d : ℕ) (v : Node) → StopsAt l d x stop → At l T v at → visit_check (Err i)
      ≡ examine_nodes l n T (keep (opened l T x d) (nodes_below (suc (l - v.level)) v)))
      → From c at (Err i)
  says-unsound first =
      record {
        few = λ s e. absurd (not_through e);
        below = λ s e. absurd (not_through e);
        visits = λ l d v asked here seen.
            record { examined = first l d v asked here; saw = λ s e. absurd (not_through e) };
      }

  -- A node that is not opened.
  module _ (c : ℕ) (at : Reached) (closed : opened_of x stop at ≡ false) where
    module _ (l d : ℕ) (v : Node) (asked : StopsAt l d x stop) (here : At l T v at)
        (seen : visited l T x d v ≡ true) where
      not_opened : opened l T x d v ≡ false
      not_opened = sym (opened-is here asked) ∙ closed

      none-opened : keep (opened l T x d) (nodes_below (suc (l - v.level)) v) ≡ []
      none-opened = let e = here.located.in_tree.deep in unopened-kept l T x d _ v (omega arith) not_opened

      unopened-seen : unopened_of x c at ≡ seen_of l T x d c v
      unopened-seen =
          let e = here.located.in_tree.deep in
          let h : v.level + (l - v.level) ≤ l = omega arith in
          let touching = touches-is here x asked.some in
          let A = has_reading l T v && shares l x v in
          rw (
            outer-end l T x d (l - v.level) v h seen not_opened,
            inner-end l T x d (l - v.level) v h seen not_opened,
            none-opened,
            touching,
            inside_is here x,
          )
          (seen_same (outer-alone l T A v here.range) (inner-alone l T (A && inside l x v) v here) (omega arith))

      unopened-visits : Visits l n T x d c v (Ok (unopened_of x c at))
      unopened-visits =
          record {
            examined = rw none-opened (unfold in_order in refl);
            saw = λ s e. sym (through_same e) ∙ unopened-seen;
          }

    pub unopened-visited : Below stop cs ks at → From c at (Ok (unopened_of x c at))
    unopened-visited lent =
        record {
          below = λ s e.
              rw (sym (through_same e))
              (alone-below stop cs ks (touches_of x at && inside_of x at) at.range at lent);
          few = λ s e.
              let z : s.opened ≡ c = ap (λ (u : Seen). u.opened) (sym (through_same e)) in
              omega (arith, some-hours lent);
          visits = unopened-visits;
        }

  -- A node that is opened.
  module _ (c : ℕ) (at : Reached) (o : opened_of x stop at ≡ true) (two : 2 ≤ at.hours)
      (lent : Below stop cs ks at) where
    module _ (l d : ℕ) (v : Node) (asked : StopsAt l d x stop) (here : At l T v at) where
      is-opened : opened l T x d v ≡ true
      is-opened = sym (opened-is here asked) ∙ o

      abbrev below : Node → List Node
      below u = nodes_below (suc (l - u.level)) u

      abbrev checks : Node → Check
      checks u = examine_nodes l n T (keep (opened l T x d) (below u))

      opened-list : keep (opened l T x d) (below v)
          ≡ v ∷ keep (opened l T x d) (below (left v)) ++ keep (opened l T x d) (below (right v))
      opened-list = rw (one_more here.located two) (opened-kept l T x d _ v is-opened)

      outer-list : keep (is_outer l T x d) (below v)
          ≡ keep (is_outer l T x d) (below (left v)) ++ keep (is_outer l T x d) (below (right v))
      outer-list = rw (one_more here.located two) (outer-kept l T x d _ v is-opened)

      inner-list : keep (is_inner l T x d) (below v)
          ≡ keep (is_inner l T x d) (below (left v)) ++ keep (is_inner l T x d) (below (right v))
      inner-list = rw (one_more here.located two) (inner-kept l T x d _ v is-opened)

      -- It is examined first, then what is opened below its left half, then below its right half.
      opened-checks : checks v
          ≡ and_then (examine_node (number v) (sound_node l n T v)) (and_then (checks (left v)) (checks (right v)))
      unfolding in_order
      opened-checks =
          let L = keep (opened l T x d) (below (left v)) in
          let R = keep (opened l T x d) (below (right v)) in
          let one : Node → Check = λ u. examine_node (number u) (sound_node l n T u) in
          rw opened-list
          (ap (and_then (one v)) (ap in_order (map-append one L R) ∙ in-order-append (map one L) (map one R)))

      seen-both : (a b : Seen) → a ≡ seen_of l T x d (c + 1) (left v) → b ≡ seen_of l T x d a.opened (right v)
          → both_seen a b ≡ seen_of l T x d c v
      seen-both a b p q =
          let L = keep (opened l T x d) (below (left v)) in
          let R = keep (opened l T x d) (below (right v)) in
          rw (
            opened-list,
            outer-list,
            inner-list,
            range-append l T (keep (is_outer l T x d) (below (left v))) (keep (is_outer l T x d) (below (right v))),
            q,
            p,
          )
          (seen_same refl
          (inner-append l T (keep (is_inner l T x d) (below (left v))) (keep (is_inner l T x d) (below (right v))))
          (omega (arith, length-append L R)))

    pub node-unsound : SteppedDown n cs ks at None → From c at (Err at.id)
    node-unsound step =
        says-unsound (λ l d v asked here.
        let no = not-stepped (sound_node l n T v) _ _ (sym (step.halves l v here)) in
        let same : number v ≡ at.id = ap (λ (k : ℕ). record { 0 = k }) here.located.numbered in
        sym (opened-checks l d v asked here ∙ rw (no, same)))

    -- It is sound, and these are its halves.
    module _ (r q : Option Range) (step : SteppedDown n cs ks at (halves_as r q)) where
      abbrev first : Reached
      first = left_reached at r

      abbrev second : Reached
      second = right_reached at q

      first-lent : Below stop cs ks first
      first-lent = left_below lent two r (step.readings r q refl).0

      second-lent : Below stop cs ks second
      second-lent = right-below lent two q (step.readings r q refl).1

      module _ (l d : ℕ) (v : Node) (asked : StopsAt l d x stop) (here : At l T v at) where
        abbrev S : Stepped (sound_node l n T v) (reached l T (left v)) (reached l T (right v)) r q
        S = stepped (sound_node l n T v) (reached l T (left v)) (reached l T (right v)) (sym (step.halves l v here))

        abbrev left_here : At l T (left v) first
        left_here = left_at here two S.first

        abbrev right-here : At l T (right v) second
        right-here = right-at here two S.second

        left-visited : visited l T x d (left v) ≡ true
        left-visited = visited-left l T x d v ∙ is-opened l d v asked here

        right-visited : visited l T x d (right v) ≡ true
        right-visited = visited-right l T x d v ∙ is-opened l d v asked here

        halves-check : checks l d v asked here v
            ≡ and_then (checks l d v asked here (left v)) (checks l d v asked here (right v))
        halves-check = opened-checks l d v asked here ∙ rw S.is_sound

        left-visits : (z : Result Seen NodeId) → From (c + 1) first z → Visits l n T x d (c + 1) (left v) z
        left-visits z F = F.visits l d (left v) asked left_here left-visited

        right-visits : (m : ℕ) (z : Result Seen NodeId) → From m second z → Visits l n T x d m (right v) z
        right-visits m z F = F.visits l d (right v) asked right-here right-visited

      pub left-unsound : (i : NodeId) → From (c + 1) first (Err i) → From c at (Err i)
      left-unsound i F =
          says-unsound (λ l d v asked here.
          sym (halves-check l d v asked here
          ∙ rw (sym (left-visits l d v asked here (Err i) F).examined)))

      module _ (a : Seen) (F : From (c + 1) first (Ok a)) where
        left-passes : (l d : ℕ) (v : Node) (asked : StopsAt l d x stop) (here : At l T v at)
            → checks l d v asked here v ≡ checks l d v asked here (right v)
        left-passes l d v asked here =
            halves-check l d v asked here ∙ rw (sym (left-visits l d v asked here (Ok a) F).examined)

        pub right-unsound : (i : NodeId) → From a.opened second (Err i) → From c at (Err i)
        right-unsound i G =
            says-unsound (λ l d v asked here.
            (right-visits l d v asked here a.opened (Err i) G).examined
            ∙ sym (left-passes l d v asked here))

        pub both-seen : (b : Seen) → From a.opened second (Ok b)
            → From c at (Ok (both_seen a b))
        both-seen b G =
            record {
              few = λ s e.
                  let z : s.opened ≡ b.opened = ap (λ (u : Seen). u.opened) (sym (through_same e)) in
                  omega (arith, F.few a refl, G.few b refl);
              below = λ s e.
                  rw (sym (through_same e))
                  (both_below stop cs ks a.inner b.inner (F.below a refl) (G.below b refl));
              visits = λ l d v asked here seen.
                  let L = left-visits l d v asked here (Ok a) F in
                  let R = right-visits l d v asked here a.opened (Ok b) G in
                  record {
                    examined = R.examined ∙ sym (left-passes l d v asked here);
                    saw = λ s e.
                        sym (through_same e) ∙ seen-both l d v asked here a b (L.saw a refl) (R.saw b refl);
                  };
            }

      -- Only one half touches the column: the visit goes on with that one.
      pub only-second : touches_of x first ≡ false → (z : Result Seen NodeId) → From (c + 1) second z → From c at z
      only-second apart (Err i) G =
          right-unsound (unopened_of x (c + 1) first) (unopened-visited (c + 1) first (rw apart) first-lent) i G
      only-second apart (Ok b) G =
          let F = unopened-visited (c + 1) first (rw apart) first-lent in
          rw (nothing-before x first apart (c + 1) b) at (both-seen (unopened_of x (c + 1) first) F b G)

      pub only-first : touches_of x second ≡ false → (z : Result Seen NodeId) → From (c + 1) first z → From c at z
      only-first apart (Err i) F = left-unsound i F
      only-first apart (Ok a) F =
          let G = unopened-visited a.opened second (rw apart) second-lent in
          rw (nothing-after x second apart a) at (both-seen a F (unopened_of x a.opened second) G)
