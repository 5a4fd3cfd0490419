-- From how the code carries a node, by its number, its first hour and how many hours it covers, to its place in the
-- tree. Assumes nothing.
use Rattle.kit.proofs.{◌≡◌, refl, ◌∙◌, ⊎_elim, ℕ, suc, ◌+◌, ◌-◌, ◌*◌, ◌/◌, ◌^◌, ◌≤◌, ◌<◌, arith, pow_mono}
use Rattle.om3.specs.Document.{Node, root, left, right, width}
use Rattle.laws.proofs.Tests.{below_or_not}
use Rattle.laws.proofs.Nodes.{start-root, width-root, width-half, width-right, start_left, start_right, number-left}
use Rattle.laws.proofs.Nodes.{number-right, left_in, right-in}
use Rattle.node.specs.Located.{Located}

pub root-located : (l : ℕ) → Located l root 1 0 (2 ^ l)
root-located l =
    record {
      in_tree = record { deep = omega arith; among = omega arith };
      numbered = refl;
      begins = start-root l;
      covers = width-root l;
    }

module _ {l : ℕ} {v : Node} {i f w : ℕ} (at : Located l v i f w) where
  -- How many hours a node covers tells its level: two or three are a pair's, four or more no pair's.
  pub above-hours : 2 ≤ w → v.level < l
  unfolding width
  above-hours h =
      ⊎_elim (λ p. p)
      (λ p.
      let d = at.in_tree.deep in
      let z : l - v.level ≡ 0 = omega arith in
      let y : 2 ^ (l - v.level) ≡ 1 = rw z in
      absurd (omega (arith, at.covers)))
      (below_or_not v.level l)

  -- A node of two hours or more has one level more below it than its halves have.
  pub one_more : 2 ≤ w → l - v.level ≡ suc (l - suc v.level)
  one_more h = let b = above-hours h in omega arith

  pub above-pairs : 4 ≤ w → suc v.level < l
  unfolding width
  above-pairs h =
      ⊎_elim (λ p. p)
      (λ p.
      let z : l - v.level ≤ 1 = omega arith in
      absurd (omega (arith, at.covers, pow_mono z)))
      (below_or_not (suc v.level) l)

  pub at_pair : 2 ≤ w → w < 4 → suc v.level ≡ l
  unfolding width
  at_pair two four =
      let d = above-hours two in
      ⊎_elim
      (λ p.
      let z : 2 ≤ l - v.level = omega arith in
      absurd (omega (arith, at.covers, pow_mono z)))
      (λ p. omega arith)
      (below_or_not (suc v.level) l)

  pub pair-width : 2 ≤ w → w < 4 → w ≡ 2
  unfolding width
  pair-width two four =
      let z : l - v.level ≡ 1 = let p = at_pair two four in omega arith in
      let y : 2 ^ (l - v.level) ≡ 2 = rw z in
      omega (arith, at.covers)

  module _ (h : 2 ≤ w) where
    abbrev b : v.level < l
    b = above-hours h

    half : width l (left v) ≡ w / 2
    half = omega (arith, at.covers, width-half l v b)

    pub left-located : Located l (left v) (2 * i) f (w / 2)
    left-located =
        record {
          in_tree = left_in at.in_tree b;
          numbered = omega (arith, number-left v, at.numbered);
          begins = start_left l v b ∙ at.begins;
          covers = half;
        }

    pub right-located : Located l (right v) (2 * i + 1) (f + w / 2) (w / 2)
    right-located =
        record {
          in_tree = right-in at.in_tree b;
          numbered = omega (arith, number-right v, at.numbered);
          begins = omega (arith, start_right l v b, at.begins, half);
          covers = width-right l v b ∙ half;
        }
