-- The narrowing of a visit: a record of what holds wherever it has come to, and how it goes on from there. A visit from
-- where it has come to is a visit from its start. Assumes nothing.
use Rattle.kit.proofs.{◌≡◌, refl, sym, ◌∙◌, Bool, true, false, not, List, ℕ, ◌+◌, ◌^◌, ◌≤◌, ◌<◌, arith, Err, None}
use Rattle.kit.proofs.{Option, Result, ℤ, ltb-true}
use Rattle.words.specs.declared.NodeId.{NodeId}
use Rattle.sight.specs.declared.Seen.{Seen}
use Rattle.node.specs.Steps.{halves_as}
use Rattle.words.specs.{largest_hours, Readings, declared.Column.Column, declared.Range.Range}
use Rattle.laws.proofs.Tests.{and_right}
use Rattle.node.specs.declared.Halves.{Halves}
use Rattle.stepping.specs.Nodes.{Below, is_pair_of, left_reached, right_reached, touches_of, inside_of, opened_of}
use Rattle.stepping.specs.Stepping.{Steps, SteppedDown, SteppedFrom}
use Rattle.stepping.specs.declared.Reached.{Reached}
use Rattle.stepping.proofs.Lending.{steps, ends-within, left_below, right-below}
use Rattle.visiting.specs.Visiting.{VisitedFrom}
use Rattle.visiting.specs.Narrowing.{SplitsAt}
use Rattle.visiting.proofs.Visiting as visiting

-- A node that is opened covers more hours than those where the visit stops.
pub opened-wide : (x : Column) (stop : ℕ) (at : Reached) → opened_of x stop at ≡ true → stop < at.hours
opened-wide x stop at o =
    ltb-true stop at.hours (and_right (not (inside_of x at)) _ (and_right (touches_of x at) _ o))

module _ (n : ℕ) (cs : List ℤ) (ks : List ℕ) (x : Column) (stop c : ℕ) (start : Reached) where
  -- Where the visit has come to: a node that is lent, with room to count, from which a visit is one from the start.
  pub record CameTo (at : Reached) (opened : ℕ) : Type 0 where
    pub below : Below stop cs ks at
    pub room : opened + at.hours ≤ largest_hours
    pub within : at.hours ≤ start.hours
    pub rest : (r : Result Seen NodeId) → VisitedFrom n cs ks x stop opened at r → VisitedFrom n cs ks x stop c start r

  pub at-start : Below stop cs ks start → c + start.hours ≤ largest_hours → CameTo start c
  at-start b m = record { below = b; room = m; within = omega arith; rest = λ r w. w }

-- The node that it has come to is opened and sound, and these are its halves.
pub record Halved (n : ℕ) (cs : List ℤ) (ks : List ℕ) (x : Column) (stop c : ℕ) (start at : Reached) (opened : ℕ)
    (first second : Reached) : Type 0 where
  came : CameTo n cs ks x stop c start at opened
  o : opened_of x stop at ≡ true
  two : 2 ≤ at.hours
  r : Option Range
  q : Option Range
  down : SteppedDown n cs ks at (halves_as r q)
  left_is : first ≡ left_reached at r
  right_is : second ≡ right_reached at q

module _ {n : ℕ} {cs : List ℤ} {ks : List ℕ} {x : Column} {stop c : ℕ} {start at : Reached} {opened : ℕ}
    {first second : Reached} (h : Halved n cs ks x stop c start at opened first second) where
  abbrev lent : Below stop cs ks at
  lent = h.came.below

  abbrev p : Readings h.r × Readings h.q
  p = h.down.readings h.r h.q refl

  pub goes_left : {touch : Bool} → touch ≡ touches_of x second → touch ≡ false
      → CameTo n cs ks x stop c start first (opened + 1)
  goes_left g apart =
      let far = rw h.right_is at (sym g ∙ apart) in
      rw h.left_is
      (record {
        below = left_below lent h.two h.r p.0;
        room = omega (arith, h.came.room, h.two);
        within = omega (arith, h.came.within);
        rest = λ z w. h.came.rest z
            (visiting.only-first n cs ks x stop opened at h.o h.two lent _ _ h.down far z w);
      })

  pub goes-right : {touch : Bool} → touch ≡ touches_of x first → touch ≡ false
      → CameTo n cs ks x stop c start second (opened + 1)
  goes-right g apart =
      let far = rw h.left_is at (sym g ∙ apart) in
      rw h.right_is
      (record {
        below = right-below lent h.two h.q p.1;
        room = omega (arith, h.came.room, h.two);
        within = omega (arith, h.came.within);
        rest = λ z w. h.came.rest z
            (visiting.only-second n cs ks x stop opened at h.o h.two lent _ _ h.down far z w);
      })

  pub splits : SplitsAt n cs ks x stop c start first second (opened + 1)
  splits =
      rw (h.left_is, h.right_is)
      (record {
        before = left_below lent h.two h.r p.0;
        after = right-below lent h.two h.q p.1;
        room = omega (arith, h.came.room);
        less-first = omega (arith, h.came.within, h.two);
        less-second = omega (arith, h.came.within, h.two);
        left-unsound = λ i F. h.came.rest _
            (visiting.left-unsound n cs ks x stop opened at h.o h.two lent _ _ h.down i F);
        right-unsound = λ a F i G. h.came.rest _
            (visiting.right-unsound n cs ks x stop opened at h.o h.two lent _ _ h.down a F i G);
        both-seen = λ a F b G. h.came.rest _
            (visiting.both-seen n cs ks x stop opened at h.o h.two lent _ _ h.down a F b G);
      })

-- From a node that the code has come to, after it tested the node.
module _ (n : ℕ) (cs : List ℤ) (ks : List ℕ) (x : Column) (stop c : ℕ) {start at : Reached} {opened : ℕ}
    (came : CameTo n cs ks x stop c start at opened) where
  pub ends-early : at.from.0 + at.hours < 2 ^ 64
  ends-early = omega (arith, ends-within came.below)

  pub right-early : {q : Option Range} {u : Reached} → u ≡ right_reached at q → u.from.0 + u.hours < 2 ^ 64
  right-early e = rw e (omega (arith, ends-early))

  module _ {test : Bool} (tested : test ≡ opened_of x stop at) where
    module _ (taken : test ≡ true) (some : 1 ≤ stop) where
      abbrev o : opened_of x stop at ≡ true
      o = sym tested ∙ taken

      abbrev two : 2 ≤ at.hours
      two = omega (arith, opened-wide x stop at o)

      module _ {pair : Bool} (asked : pair ≡ is_pair_of at.hours) where
        pub steps-there : Steps cs ks at.id at.from pair at.range
        steps-there = rw asked (steps came.below (opened-wide x stop at o) two)

        module _ {halves : Option Halves} (step : SteppedFrom n cs ks at.id at.from pair at.range halves) where
          pub unsound : halves ≡ None → VisitedFrom n cs ks x stop c start (Err at.id)
          unsound is =
              came.rest _
              (visiting.node-unsound n cs ks x stop opened at o two came.below (rw is at (step _ two asked)))

          pub halved : {r q : Option Range} → halves ≡ halves_as r q
              → {first second : Reached} → first ≡ left_reached at r → second ≡ right_reached at q
              → Halved n cs ks x stop c start at opened first second
          halved is left_is right_is =
              record {
                came = came;
                o = o;
                two = two;
                r = _;
                q = _;
                down = rw is at (step _ two asked);
                left_is = left_is;
                right_is = right_is;
              }
