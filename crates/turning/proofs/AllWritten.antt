-- The hours written below node 1 are those that a table turns back to, as many as there is room for. Assumes
-- nothing.
use Rattle.kit.proofs.{◌≡◌, refl, sym, ap, ◌∙◌, Bool, true, false, List, ⊎_elim, ℕ, zero, suc, ◌+◌, ◌-◌, ◌/◌, ◌^◌, ◌≤◌}
use Rattle.kit.proofs.{◌<◌, two-pow-succ, arith, eqb, ℤ, pow_pos, length, get_or, length-set, get_or-set_same}
use Rattle.kit.proofs.{get_or-set_other, ext_get_or, eqb-true, eqb-false}
use Rattle.words.specs.{gap, low_of}
use Rattle.om3.specs.Document.{Node, root, left, right, width, Table, reached_at, reached, turned_back}
use Rattle.node.specs.Located.{Located}
use Rattle.laws.proofs.{Tests.below_or_not, Nodes.width-hour, Nodes.start-hour, TurnedBack.turned-length}
use Rattle.laws.proofs.{TurnedBack.turned-at}
use Rattle.node.proofs.Located.{root-located, left-located, right-located}
use Rattle.turning.specs.Turning.{with_hours}

-- Writing below a node: the length stays, an hour once right stays right, and each hour below the node is written.
module _ (l : ℕ) (t : Table) where
  with-length : (h : ℕ) (v : Node) (out : List ℤ) → length (with_hours l t h v out) ≡ length out
  unfolding with_hours
  with-length zero v out = length-set out v.index (low_of (reached l t v))
  with-length (suc h) v out = with-length h (right v) (with_hours l t h (left v) out) ∙ with-length h (left v) out

  abbrev IsRight : List ℤ → ℕ → Type 0
  IsRight out k = get_or out k gap ≡ low_of (reached_at l t l k)

  hour-written : (k : ℕ) (v : Node) (out : List ℤ) → v.level ≡ l → k ≡ v.index → k < length out
      → IsRight (with_hours l t 0 v out) k
  unfolding with_hours
  hour-written k v out z e b =
      rw (← e)
      (get_or-set_same out k (low_of (reached_at l t v.level k)) gap b
      ∙ ap (λ (j : ℕ). low_of (reached_at l t j k)) z)

  stays : (k h : ℕ) (v : Node) (out : List ℤ) → v.level + h ≡ l → k < length out → IsRight out k
      → IsRight (with_hours l t h v out) k
  unfolding with_hours
  stays k zero v out z b r = by (eqb k v.index) refl
    where
      by : (q : Bool) → eqb k v.index ≡ q → IsRight (with_hours l t 0 v out) k
      by true e = hour-written k v out (omega arith) (eqb-true k v.index e) b
      by false e = get_or-set_other out v.index k (low_of (reached l t v)) gap (eqb-false k v.index e) ∙ r
  stays k (suc h) v out z b r =
      let z' : suc v.level + h ≡ l = omega arith in
      let b' : k < length (with_hours l t h (left v) out) = omega (arith, with-length h (left v) out) in
      stays k h (right v) (with_hours l t h (left v) out) z' b' (stays k h (left v) out z' b r)

  written : (k h : ℕ) (v : Node) (out : List ℤ) {i f w : ℕ} → Located l v i f w → v.level + h ≡ l → f ≤ k → k < f + w
      → k < length out → IsRight (with_hours l t h v out) k
  unfolding with_hours width
  written k zero v out at z low high b =
      let z' : v.level ≡ l = omega arith in
      let e : k ≡ v.index = omega (arith, start-hour l v z', width-hour l v z', at.begins, at.covers) in
      hour-written k v out z' e b
  written k (suc h) v out {f = f} {w = w} at z low high b =
      let m : l - v.level ≡ suc h = omega arith in
      let p : 2 ^ (l - v.level) ≡ 2 ^ h + 2 ^ h = rw m (two-pow-succ h) in
      let e : w ≡ 2 ^ h + 2 ^ h = sym at.covers ∙ p in
      let two : 2 ≤ w = omega (arith, pow_pos h) in
      let z' : suc v.level + h ≡ l = omega arith in
      let b' : k < length (with_hours l t h (left v) out) = omega (arith, with-length h (left v) out) in
      ⊎_elim
      (λ q.
      stays k h (right v) (with_hours l t h (left v) out) z' b'
      (written k h (left v) out (left-located at two) z' low q b))
      (λ q. written k h (right v) (with_hours l t h (left v) out) (right-located at two) z' q (omega arith) b')
      (below_or_not k (f + w / 2))

  pub all-written : (n : ℕ) (out : List ℤ) → n ≤ 2 ^ l → length out ≡ n → with_hours l t l root out ≡ turned_back l t n
  all-written n out most e =
      ext_get_or gap (with_hours l t l root out) (turned_back l t n)
      (with-length l root out ∙ e ∙ sym (turned-length l t n))
      (λ k b.
      let b' : k < length out = omega (arith, with-length l root out) in
      written k l root out (root-located l) (omega arith) (omega arith) (omega arith) b'
      ∙ sym (turned-at l t n k (omega arith)))
