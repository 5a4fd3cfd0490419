-- What it is to be opened, and that a half of a node that is not opened is not opened. Assumes nothing.
use Rattle.kit.proofs.{◌≡◌, refl, sym, ◌∙◌, Bool, true, false, cond, not, ◌&&◌, ℕ, ◌+◌, ◌≤◌, ◌<◌, arith, ltb, ltb-true}
use Rattle.kit.proofs.{None, Option, Some, lt-ltb, not-true}
use Rattle.signed.proofs.{clash}
use Rattle.words.specs.declared.{Column.Column, Range.Range}
use Rattle.om3.specs.Document.{Node, left, right, is_pair, width, start, is_empty, Table, left_of, right_of, reached}
use Rattle.om3.specs.Document.{has_reading, shares, inside, opened}
use Rattle.laws.proofs.Tests.{and_left, and_right, fails-up}
use Rattle.laws.proofs.Reached.{reached-left, reached-right}
use Rattle.laws.proofs.Nodes.{width-half, width-right, start_left, start_right}
use Rattle.laws.proofs.Intervals.{shares-overlap, overlap-shares, inside-within, within-inside}

-- An opened node has a reading, shares an hour with the column, is not wholly inside it and is of a level below d.
pub record Opens (l : ℕ) (t : Table) (x : Column) (d : ℕ) (v : Node) : Type 0 where
  pub reading : has_reading l t v ≡ true
  pub sharing : shares l x v ≡ true
  pub partly : inside l x v ≡ false
  pub shallow : v.level < d

module _ (l : ℕ) (t : Table) (x : Column) (d : ℕ) (v : Node) where
  pub opened-opens : opened l t x d v ≡ true → Opens l t x d v
  unfolding opened
  opened-opens e =
      let R = has_reading l t v in
      let S = shares l x v in
      let O = not (inside l x v) in
      let D = ltb v.level d in
      let three = and_left (R && S && O) D e in
      let two = and_left (R && S) O three in
      record {
        reading = and_left R S two;
        sharing = and_right R S two;
        partly = not-true (inside l x v) (and_right (R && S) O three);
        shallow = ltb-true v.level d (and_right (R && S && O) D e);
      }

  pub opens-opened : Opens l t x d v → opened l t x d v ≡ true
  unfolding opened
  opens-opened o = rw (o.reading, o.sharing, o.partly) (lt-ltb v.level d o.shallow)

  pub unopened-if : (Opens l t x d v → ⊥) → opened l t x d v ≡ false
  unopened-if f = fails-up (opened l t x d v) false (λ e. absurd (f (opened-opens e))) refl

-- Halves of an empty node are empty: a half that has a reading is one of a node that has.
no-range : (b : Bool) → not (is_empty (cond b None None)) ≡ false
no-range true = refl
no-range false = refl

some-above : (half : Option Range → Option Range) → not (is_empty (half None)) ≡ false → (r : Option Range)
    → not (is_empty (half r)) ≡ true → not (is_empty r) ≡ true
some-above half none None e = clash (sym none ∙ e)
some-above half none (Some r) e = refl

module _ (l : ℕ) (t : Table) (v : Node) where
  left-reading : has_reading l t (left v) ≡ true → has_reading l t v ≡ true
  left-reading e = some-above (left_of l t v) (no-range (is_pair l v)) (reached l t v) (rw (reached-left l t v) at e)

  right-reading : has_reading l t (right v) ≡ true → has_reading l t v ≡ true
  right-reading e = some-above (right_of l t v) (no-range (is_pair l v)) (reached l t v) (rw (reached-right l t v) at e)

-- Where the left half of a node ends, the right half starts, and it ends where the node does.
pub record Cut (l : ℕ) (v : Node) : Type 0 where
  pub starts : start l (left v) ≡ start l v
  pub meets : start l (left v) + width l (left v) ≡ start l (right v)
  pub ends : start l (right v) + width l (right v) ≡ start l v + width l v

pub node-cut : (l : ℕ) (v : Node) → v.level < l → Cut l v
node-cut l v b =
    record {
      starts = start_left l v b;
      meets = omega (arith, start_left l v b, start_right l v b);
      ends = omega (arith, start_right l v b, width-half l v b, width-right l v b);
    }

-- Node u is a half of node v, in what opening asks for.
pub record Half (l : ℕ) (t : Table) (v u : Node) : Type 0 where
  pub after : start l v ≤ start l u
  pub before : start l u + width l u ≤ start l v + width l v
  pub deeper : v.level < u.level
  pub reading : has_reading l t u ≡ true → has_reading l t v ≡ true

module _ (l : ℕ) (t : Table) (v : Node) (b : v.level < l) where
  pub left-half : Half l t v (left v)
  left-half =
      let c = node-cut l v b in
      record { after = omega arith; before = omega arith; deeper = omega arith; reading = left-reading l t v }

  pub right-half : Half l t v (right v)
  right-half =
      let c = node-cut l v b in
      record { after = omega arith; before = omega arith; deeper = omega arith; reading = right-reading l t v }

-- Where a half shares an hour with the column, so does the node; where the node lies wholly inside it, so does the
-- half.
module _ (l : ℕ) (t : Table) (x : Column) (v u : Node) (h : Half l t v u) where
  half-shares : shares l x u ≡ true → shares l x v ≡ true
  half-shares e =
      let o = shares-overlap l x u e in
      overlap-shares l x v
      (record {
        reaches = omega (arith, h.before, o.reaches);
        begins = omega (arith, h.after, o.begins);
        some = o.some;
      })

  half-inside : inside l x v ≡ true → inside l x u ≡ true
  half-inside e =
      let w = inside-within l x v e in
      within-inside l x u
      (record { after = omega (arith, h.after, w.after); before = omega (arith, h.before, w.before) })

  half-opens : (d : ℕ) → Opens l t x d u → Opens l t x d v
  half-opens d o =
      record {
        reading = h.reading o.reading;
        sharing = half-shares o.sharing;
        partly = fails-up (inside l x v) (inside l x u) half-inside o.partly;
        shallow = omega (arith, h.deeper, o.shallow);
      }

  pub half-unopened : (d : ℕ) → opened l t x d v ≡ false → opened l t x d u ≡ false
  half-unopened d =
      fails-up (opened l t x d u) (opened l t x d v)
      (λ e. opens-opened l t x d v (half-opens d (opened-opens l t x d u e)))
