-- What the narrowing of a visit promises. Cited by its contract. Assumes nothing.
--
--   EndsAt at opened                it came to a node that is not opened
--   SplitsAt first second opened    it came to two halves that both are to be visited
--   NarrowedFrom                    its contract
use Rattle.std.specs.Prelude.{◌≡◌, false, List, ℕ, ◌+◌, ◌≤◌, ◌<◌, ℤ, Err, Ok, Result}
use Rattle.words.specs.Constants.{largest_hours}
use Rattle.words.specs.declared.Column.{Column}
use Rattle.words.specs.declared.NodeId.{NodeId}
use Rattle.stepping.specs.Nodes.{Below, opened_of}
use Rattle.stepping.specs.declared.Reached.{Reached}
use Rattle.sight.specs.Seen.{both_seen}
use Rattle.sight.specs.declared.Seen.{Seen}
use Rattle.visiting.specs.Visiting.{VisitedFrom}
use Rattle.visiting.specs.declared.Narrowed.{Narrowed}

module _ (n : ℕ) (cs : List ℤ) (ks : List ℕ) (x : Column) (stop c : ℕ) (start : Reached) where
  -- At a node that is not opened: a visit from there is one from the start.
  pub record EndsAt (at : Reached) (opened : ℕ) : Type 0 where
    pub lent : Below stop cs ks at
    pub closed : opened_of x stop at ≡ false
    pub rest : (r : Result Seen NodeId) → VisitedFrom n cs ks x stop opened at r → VisitedFrom n cs ks x stop c start r

  -- At two halves: what is seen in one and then in the other is seen from the start.
  pub record SplitsAt (first second : Reached) (opened : ℕ) : Type 0 where
    pub before : Below stop cs ks first
    pub after : Below stop cs ks second
    pub room : opened + first.hours + second.hours ≤ largest_hours + 1
    pub less-first : first.hours < start.hours
    pub less-second : second.hours < start.hours
    pub left-unsound : (i : NodeId) → VisitedFrom n cs ks x stop opened first (Err i)
        → VisitedFrom n cs ks x stop c start (Err i)
    pub right-unsound : (a : Seen) → VisitedFrom n cs ks x stop opened first (Ok a)
        → (i : NodeId) → VisitedFrom n cs ks x stop a.opened second (Err i)
        → VisitedFrom n cs ks x stop c start (Err i)
    pub both-seen : (a : Seen) → VisitedFrom n cs ks x stop opened first (Ok a)
        → (b : Seen) → VisitedFrom n cs ks x stop a.opened second (Ok b)
        → VisitedFrom n cs ks x stop c start (Ok (both_seen a b))

  -- For each answer of the narrowing.
  abbrev pub NarrowedFrom : Result Narrowed NodeId → Type 0
  NarrowedFrom (Err i) = VisitedFrom n cs ks x stop c start (Err i)
  NarrowedFrom (Ok (Narrowed.Ended at opened)) = EndsAt at opened
  NarrowedFrom (Ok (Narrowed.Split first second opened)) = SplitsAt first second opened
