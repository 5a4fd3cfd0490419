-- The tests that the code makes of a node are those of the definitions: it shares an hour with the column, lies wholly
-- inside it, is opened. Assumes nothing.
use Rattle.kit.proofs.{◌≡◌, refl, sym, ◌∙◌, Bool, true, false, not, ◌&&◌, and_assoc, ⊎_elim, ℕ, ◌+◌, ◌-◌, ◌^◌, ◌≤◌, ◌<◌}
use Rattle.kit.proofs.{Option, arith, leb, ltb, pow_mono, pow-lt, leb-true, ltb-true, le-leb, lt-ltb, le-ltb}
use Rattle.words.specs.declared.{Column.Column, Range.Range}
use Rattle.om3.specs.Document.{Node, left, right, width, Table, reached, has_reading, shares, inside, opened}
use Rattle.laws.proofs.Tests.{and_left, and_right, both_true, below_or_not}
use Rattle.node.proofs.Located.{left-located, right-located}
use Rattle.laws.proofs.Intervals.{shares-overlap, overlap-shares, inside-within, within-inside}
use Rattle.stepping.specs.Nodes.{At, left_reached, right_reached, touches_of, inside_of, opened_of, StopsAt}
use Rattle.stepping.specs.declared.Reached.{Reached}

-- Two tests that imply each other are the same.
same_test : (a b : Bool) → (a ≡ true → b ≡ true) → (b ≡ true → a ≡ true) → a ≡ b
same_test true b f g = sym (f refl)
same_test false true f g = g refl
same_test false false f g = refl

module _ {l : ℕ} {t : Table} {v : Node} {at : Reached} (here : At l t v at) where
  abbrev f : ℕ
  f = at.from.0

  abbrev w : ℕ
  w = at.hours

  module _ (x : Column) where
    -- Two stretches of hours share one if each begins before the other ends.
    shares-is : x.from.0 < x.upto.0 → (ltb x.from.0 (f + w) && ltb f x.upto.0) ≡ shares l x v
    shares-is some =
        let begins = here.located.begins in
        let covers = here.located.covers in
        let A = ltb x.from.0 (f + w) in
        let B = ltb f x.upto.0 in
        same_test (A && B) (shares l x v)
        (λ e.
        let p : x.from.0 < f + w = ltb-true _ _ (and_left A B e) in
        let q : f < x.upto.0 = ltb-true _ _ (and_right A B e) in
        overlap-shares l x v (record { reaches = omega arith; begins = omega arith; some = some }))
        (λ e.
        let o = shares-overlap l x v e in
        both_true (lt-ltb x.from.0 (f + w) (omega (arith, o.reaches)))
        (lt-ltb f x.upto.0 (omega (arith, o.begins))))

    pub inside_is : inside_of x at ≡ inside l x v
    inside_is =
        let begins = here.located.begins in
        let covers = here.located.covers in
        let A = leb x.from.0 f in
        let B = leb (f + w) x.upto.0 in
        same_test (A && B) (inside l x v)
        (λ e.
        let p : x.from.0 ≤ f = leb-true _ _ (and_left A B e) in
        let q : f + w ≤ x.upto.0 = leb-true _ _ (and_right A B e) in
        within-inside l x v (record { after = omega arith; before = omega arith }))
        (λ e.
        let i = inside-within l x v e in
        both_true (le-leb x.from.0 f (omega (arith, i.after)))
        (le-leb (f + w) x.upto.0 (omega (arith, i.before))))

    pub touches-is : x.from.0 < x.upto.0 → touches_of x at ≡ (has_reading l t v && shares l x v)
    touches-is some = rw (here.range, shares-is some)

  -- It covers more hours than a node of level d exactly if its level is below d.
  deep_is : (d stop : ℕ) → d ≤ l → stop ≡ 2 ^ (l - d) → ltb stop w ≡ ltb v.level d
  unfolding width
  deep_is d stop deep e =
      let covers = here.located.covers in
      let low = here.located.in_tree.deep in
      ⊎_elim
      (λ h.
      let less : l - d < l - v.level = omega arith in
      lt-ltb stop w (omega (arith, pow-lt less)) ∙ sym (lt-ltb _ _ h))
      (λ h.
      let more : l - v.level ≤ l - d = omega arith in
      le-ltb stop w (omega (arith, pow_mono more)) ∙ sym (le-ltb _ _ h))
      (below_or_not v.level d)

  pub opened-is : {d stop : ℕ} {x : Column} → StopsAt l d x stop → opened_of x stop at ≡ opened l t x d v
  unfolding opened
  opened-is {d} {stop} {x} asked =
      rw (touches-is x asked.some, inside_is x, deep_is d stop asked.deep asked.stops)
      (sym (and_assoc (has_reading l t v && shares l x v) (not (inside l x v)) (ltb v.level d)))

  -- The halves, where they have the ranges reached there.
  module _ (two : 2 ≤ at.hours) {r : Option Range} where
    pub left_at : r ≡ reached l t (left v) → At l t (left v) (left_reached at r)
    left_at e = record { located = left-located here.located two; range = e }

    pub right-at : r ≡ reached l t (right v) → At l t (right v) (right_reached at r)
    right-at e = record { located = right-located here.located two; range = e }
