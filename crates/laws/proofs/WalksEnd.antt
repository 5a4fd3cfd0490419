-- Where what is reached at each node is the range of its hours, the walk to the first reading from a node that has one
-- ends at the first reading of the node's hours, and the walk to the last at the last: the half taken at each step has
-- a reading, and its first or last is the node's own. Assumes nothing.
use Rattle.kit.proofs.{◌≡◌, refl, sym, ap, ◌∙◌, true, false, List, ℕ, zero, suc, ◌+◌, ◌<◌, arith, ℤ, Option}
use Rattle.words.specs.declared.Summary.{Summary}
use Rattle.words.specs.{low_of, declared.Timestamp.Timestamp, declared.Reading.Reading}
use Rattle.om3.specs.Document.{hour, hour_of, Node, InTree, left, right, range_of, Table, reached, has_reading}
use Rattle.om3.specs.Document.{walk_end, towards_first, towards_last, reading_at, reading_of}
use Rattle.laws.proofs.{Tests.chosen, Ranges.low-hour, Places.hour-range, Answers.joined-right}
use Rattle.laws.proofs.{LookedThrough.hour_answer, Nodes.left_in, Nodes.right-in, Nodes.start-hour}
use Rattle.laws.proofs.NodeAnswers.{node_answer, Begins, Ends, begins-joined, ends-joined, found, hour-begins}
use Rattle.laws.proofs.NodeAnswers.{hour-ends, answer-halves, answer-hour, reading-found, no_answer}

-- A half that a walk takes: a node of the tree, of the level below.
pub record Taken (l : ℕ) (v u : Node) : Type 0 where
  pub in_tree : InTree l u
  pub below : u.level ≡ suc v.level

module _ {l : ℕ} {v : Node} (i : InTree l v) (b : v.level < l) where
  left-taken : Taken l v (left v)
  left-taken = record { in_tree = left_in i b; below = refl }

  right-taken : Taken l v (right v)
  right-taken = record { in_tree = right-in i b; below = refl }

module _ (l : ℕ) (t : Table) (v : Node) (i : InTree l v) (b : v.level < l) where
  pub first_taken : Taken l v (towards_first l t v)
  first_taken = chosen (Taken l v) (has_reading l t (left v)) (λ e. left-taken i b) (λ e. right-taken i b)

  pub last_taken : Taken l v (towards_last l t v)
  last_taken = chosen (Taken l v) (has_reading l t (right v)) (λ e. right-taken i b) (λ e. left-taken i b)

module _ (l n : ℕ) (s : List ℤ) (t : Table) where
  abbrev A : Node → Option Summary
  A v = node_answer l n s v

  -- From node v to node u, one of its halves: it has a reading, and what it shows as first, or last, v shows too.
  record Step (Shows : Option Summary → Reading → Type 0) (v u : Node) : Type 0 where
    reading : has_reading l t u ≡ true
    shows : (r : Reading) → Shows (A u) r → Shows (A v) r

  module _ (ranges : (v : Node) → InTree l v → reached l t v ≡ range_of l n s v) where
    -- A single hour.
    grams-hour : (v : Node) → InTree l v → v.level ≡ l → low_of (reached l t v) ≡ hour_of n s (hour v.index)
    grams-hour v i z = rw (ranges v i, hour-range l n s v z, start-hour l v z) (low-hour (hour_of n s (hour v.index)))

    hour-found : (v : Node) → InTree l v → v.level ≡ l → has_reading l t v ≡ true
        → found (hour_answer n s (hour v.index)) ≡ true
    hour-found v i z e = ap found (sym (answer-hour l n s v z)) ∙ sym (reading-found l n s t ranges v i) ∙ e

    -- A walk whose every step shows what it came from ends at what its starting node shows.
    module _ (Shows : Option Summary → Reading → Type 0) (half : Node → Node)
        (at-hour : (h : Timestamp) → found (hour_answer n s h) ≡ true → Shows (hour_answer n s h) (reading_of n s h))
        (taken : (v : Node) → InTree l v → v.level < l → Taken l v (half v))
        (step : (v : Node) → InTree l v → v.level < l → has_reading l t v ≡ true → Step Shows v (half v)) where
      walk-shows : (h : ℕ) (v : Node) → v.level + h ≡ l → InTree l v → has_reading l t v ≡ true
          → Shows (A v) (reading_at l t (walk_end half h v))
      unfolding walk_end
      walk-shows zero v e i r =
          let z : v.level ≡ l = omega arith in
          rw (answer-hour l n s v z, grams-hour v i z) (at-hour (hour v.index) (hour-found v i z r))
      walk-shows (suc h) v e i r =
          let b : v.level < l = omega arith in
          let p = step v i b r in
          let u = taken v i b in
          p.shows _ (walk-shows h (half v) (omega (arith, u.below)) u.in_tree p.reading)

    module _ (v : Node) (i : InTree l v) (b : v.level < l) (r : has_reading l t v ≡ true) where
      -- A half that answers for the whole node.
      whole-step : (Shows : Option Summary → Reading → Type 0) (u : Node) → InTree l u → A v ≡ A u → Step Shows v u
      whole-step Shows u j e =
          record {
            reading =
                reading-found l n s t ranges u j ∙ ap found (sym e) ∙ sym (reading-found l n s t ranges v i) ∙ r;
            shows = λ q p. rw e p;
          }

      right-whole : has_reading l t (left v) ≡ false → A v ≡ A (right v)
      right-whole e = answer-halves l n s v b ∙ rw (no_answer l n s t ranges (left v) (left_in i b) e)

      left-whole : has_reading l t (right v) ≡ false → A v ≡ A (left v)
      left-whole e =
          answer-halves l n s v b
          ∙ rw (no_answer l n s t ranges (right v) (right-in i b) e) (joined-right (A (left v)))

      first_step : Step Begins v (towards_first l t v)
      first_step =
          chosen (Step Begins v) (has_reading l t (left v))
          (λ e.
          record {
            reading = e;
            shows = λ q p. rw (answer-halves l n s v b) (begins-joined (A (left v)) (A (right v)) q p);
          })
          (λ e. whole-step Begins (right v) (right-in i b) (right-whole e))

      last_step : Step Ends v (towards_last l t v)
      last_step =
          chosen (Step Ends v) (has_reading l t (right v))
          (λ e.
          record {
            reading = e;
            shows = λ q p. rw (answer-halves l n s v b) (ends-joined (A (left v)) (A (right v)) q p);
          })
          (λ e. whole-step Ends (left v) (left_in i b) (left-whole e))

    pub walk_first : (h : ℕ) (v : Node) → v.level + h ≡ l → InTree l v → has_reading l t v ≡ true
        → Begins (A v) (reading_at l t (walk_end (towards_first l t) h v))
    walk_first = walk-shows Begins (towards_first l t) (hour-begins n s) (first_taken l t) first_step

    pub walk-last : (h : ℕ) (v : Node) → v.level + h ≡ l → InTree l v → has_reading l t v ≡ true
        → Ends (A v) (reading_at l t (walk_end (towards_last l t) h v))
    walk-last = walk-shows Ends (towards_last l t) (hour-ends n s) (last_taken l t) last_step
