-- Where what is reached at each node is the range of its hours, the answer of a node's hours is joined from those of
-- its halves, and a node has a reading exactly if its hours answer with one. Assumes nothing.
use Rattle.kit.proofs.{◌≡◌, refl, sym, ap, ◌∙◌, Bool, true, false, not, List, [], ◌∷◌, ◌++◌, ℕ, ◌<◌, ℤ, None, Option}
use Rattle.kit.proofs.{Some}
use Rattle.words.specs.declared.Summary.{Summary}
use Rattle.signed.proofs.{clash}
use Rattle.words.specs.declared.{Timestamp.Timestamp, Reading.Reading}
use Rattle.om3.specs.Document.{up_from, is_gap, hour, hour_of, Node, InTree, left, right, hours, is_empty, range_of}
use Rattle.om3.specs.Document.{Table, reached, has_reading, joined, reading_of, look_through}
use Rattle.laws.proofs.{Tests.chosen, Nodes.hours-halves, Nodes.width-hour, Nodes.start-hour}
use Rattle.laws.proofs.LookedThrough.{look-through-append, look-through-range, joined-assoc, range_of_answer}
use Rattle.laws.proofs.LookedThrough.{hour_answer, look-through-one}

-- The answer of a node's hours.
abbrev pub node_answer : ℕ → ℕ → List ℤ → Node → Option Summary
node_answer l n s v = look_through n s (hours l v)

-- An answer has a first reading, and it is r; it has a last one, and it is r.
abbrev pub Begins : Option Summary → Reading → Type 0
Begins None r = ⊥
Begins (Some f) r = f.first ≡ r

abbrev pub Ends : Option Summary → Reading → Type 0
Ends None r = ⊥
Ends (Some f) r = f.last ≡ r

pub begins-joined : (a b : Option Summary) (r : Reading) → Begins a r → Begins (joined a b) r
begins-joined None b r e = absurd e
begins-joined (Some a) None r e = e
begins-joined (Some a) (Some b) r e = e

pub ends-joined : (a b : Option Summary) (r : Reading) → Ends b r → Ends (joined a b) r
ends-joined None b r e = e
ends-joined (Some a) None r e = absurd e
ends-joined (Some a) (Some b) r e = e

-- Whether an answer is not "no reading".
abbrev pub found : Option Summary → Bool
found a = not (is_empty (range_of_answer a))

found-not : (a : Option Summary) → found a ≡ false → a ≡ None
found-not None e = refl
found-not (Some f) e = clash (sym e)

-- An hour that answers has its reading as its first and as its last.
module _ (n : ℕ) (s : List ℤ) (h : Timestamp) where
  pub hour-begins : found (hour_answer n s h) ≡ true → Begins (hour_answer n s h) (reading_of n s h)
  hour-begins =
      chosen (λ a. found a ≡ true → Begins a (reading_of n s h)) (is_gap (hour_of n s h)) (λ g e. clash e) (λ g e. refl)

  pub hour-ends : found (hour_answer n s h) ≡ true → Ends (hour_answer n s h) (reading_of n s h)
  hour-ends =
      chosen (λ a. found a ≡ true → Ends a (reading_of n s h)) (is_gap (hour_of n s h)) (λ g e. clash e) (λ g e. refl)

module _ (l n : ℕ) (s : List ℤ) where
  abbrev A : Node → Option Summary
  A v = node_answer l n s v

  pub answer-halves : (v : Node) → v.level < l → A v ≡ joined (A (left v)) (A (right v))
  answer-halves v b = rw (hours-halves l v b) (look-through-append n s (hours l (left v)) (hours l (right v)))

  pub answer-hour : (v : Node) → v.level ≡ l → A v ≡ hour_answer n s (hour v.index)
  unfolding hours up_from
  answer-hour v z = rw (width-hour l v z, start-hour l v z) (look-through-one n s (hour v.index))

  -- The answers of the nodes of a list, joined in its order.
  unfoldable pub joined_over : List Node → Option Summary
  joined_over [] = None
  joined_over (v ∷ vs) = joined (A v) (joined_over vs)

  pub joined-over-append : (vs us : List Node) → joined_over (vs ++ us) ≡ joined (joined_over vs) (joined_over us)
  unfolding joined_over
  joined-over-append [] us = refl
  joined-over-append (v ∷ vs) us =
      ap (joined (A v)) (joined-over-append vs us) ∙ sym (joined-assoc (A v) (joined_over vs) (joined_over us))

  module _ (t : Table) (ranges : (v : Node) → InTree l v → reached l t v ≡ range_of l n s v) (v : Node) (i : InTree l v)
    where
      pub reached-answer : reached l t v ≡ range_of_answer (A v)
      unfolding range_of
      reached-answer = ranges v i ∙ sym (look-through-range n s (hours l v))

      pub reading-found : has_reading l t v ≡ found (A v)
      reading-found = rw reached-answer

      pub no_answer : has_reading l t v ≡ false → A v ≡ None
      no_answer e = found-not (A v) (sym reading-found ∙ e)
