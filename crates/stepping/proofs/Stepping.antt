-- One step down, at a pair and at a node of two halves: its answer is the node's halves if it is sound, and these are
-- ranges of readings. Assumes nothing.
use Rattle.kit.proofs.{◌≡◌, sym, ◌∙◌, Bool, ◌&&◌, List, ℕ, ◌+◌, ◌*◌, ◌/◌, ◌≤◌, ◌<◌, ℤ, pos, get_or, Option}
use Rattle.node.specs.Steps.{halves_as, halves_of}
use Rattle.words.specs.{declared.NodeId.NodeId, declared.Timestamp.Timestamp, declared.Range.Range, Readings}
use Rattle.om3.specs.Document.{hour, Node, Table, lent, first_of_pair, second_of_pair, sound_code, gap_from}
use Rattle.laws.proofs.{Tests.and_left, Nodes.pair-yes, Nodes.pair-no, Reached.reached-left, Reached.reached-right}
use Rattle.laws.proofs.{SoundCodes.coded}
use Rattle.node.proofs.Located.{above-pairs, at_pair}
use Rattle.node.specs.declared.Halves.{Halves}
use Rattle.examining.specs.Examining.{pair_at}
use Rattle.examining.proofs.Answers.{stepped}
use Rattle.examining.proofs.Examining.{code-index, sound-pair, sound-node, left-readings, right-readings}
use Rattle.stepping.specs.{Nodes.At, Stepping.halves_at, Stepping.SteppedDown}
use Rattle.stepping.specs.declared.Reached.{Reached}

module _ (n : ℕ) (cs : List ℤ) (ks : List ℕ) (i : NodeId) (h : Timestamp) (w : ℕ) (range : Option Range) where
  abbrev T : Table
  T = lent cs ks

  abbrev here : Reached
  here = record { id = i; from = h; hours = w; range = range }

  -- At a pair.
  module _ (two : 2 ≤ w) (four : w < 4) (p : Readings range) where
    abbrev c : ℕ
    c = get_or ks (h.0 / 2) 0

    abbrev F : Bool
    F = gap_from n (hour h.0) (first_of_pair range c)

    abbrev S : Bool
    S = gap_from n (hour (h.0 + 1)) (second_of_pair range c)

    pair-down : (l : ℕ) (v : Node) → At l T v here → pair_at n ks h.0 range ≡ halves_at l n T v
    pair-down l v at =
        let here = at.located in
        rw (
          sound-pair n cs ks i h.0 w range two four l v here at.range,
          reached-left l T v,
          reached-right l T v,
          pair-yes l v (at_pair here two four),
          code-index here two four,
          ← at.range,
        )

    pair-readings : (a b : Option Range) → pair_at n ks h.0 range ≡ halves_as a b → Readings a × Readings b
    pair-readings a b e =
        let s = stepped (sound_code range c && F && S) (first_of_pair range c) (second_of_pair range c) e in
        let fits = and_left (sound_code range c) F (and_left (sound_code range c && F) S s.is_sound) in
        let halves = (coded range c p fits).halves in
        (rw s.first halves.readings-left, rw s.second halves.readings-right)

    pub pair-stepped : (r : Option Halves) → r ≡ pair_at n ks h.0 range → SteppedDown n cs ks here r
    pair-stepped r e =
        record { halves = λ l v at. e ∙ pair-down l v at; readings = λ a b h. pair-readings a b (sym e ∙ h) }

  -- At a node of two halves.
  module _ (wide : 4 ≤ w) (p : Readings range) where
    abbrev low : ℤ
    low = get_or cs (2 * i.0) (pos 0)

    abbrev high : ℤ
    high = get_or cs (2 * i.0 + 1) (pos 0)

    details-down : (l : ℕ) (v : Node) → At l T v here → halves_of range low high ≡ halves_at l n T v
    details-down l v at =
        let here = at.located in
        rw (
          sound-node n cs ks i h.0 w range wide l v here at.range,
          reached-left l T v,
          reached-right l T v,
          pair-no l v (above-pairs here wide),
          here.numbered,
          ← at.range,
        )

    pub details-stepped : (r : Option Halves) → r ≡ halves_of range low high → SteppedDown n cs ks here r
    details-stepped r e =
        record {
          halves = λ l v at. e ∙ details-down l v at;
          readings = λ a b h.
              let g = sym e ∙ h in
              (left-readings range cs i.0 p g, right-readings range cs i.0 p g);
        }
