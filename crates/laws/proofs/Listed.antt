-- What holds of each node of a list of nodes; what holds of each node listed below node 1 holds of each node of the
-- tree. Assumes nothing.
use Rattle.kit.proofs.{◌≡◌, List, [], ◌∷◌, ◌++◌, ⊎_elim, ℕ, zero, suc, ◌+◌, ◌-◌, ◌/◌, ◌^◌, ◌<◌, two-pow-succ, arith}
use Rattle.om3.specs.Document.{Node, InTree, root, left, right, nodes_below}
use Rattle.laws.proofs.Tests.{even-or-odd}

abbrev pub All : (Node → Type 0) → List Node → Type 0
All P [] = Unit
All P (v ∷ vs) = P v × All P vs

module _ (P : Node → Type 0) where
  pub all_append : (vs us : List Node) → All P vs → All P us → All P (vs ++ us)
  all_append [] us a b = b
  all_append (v ∷ vs) us a b = (a.0, all_append vs us a.1 b)

  first_part : (vs us : List Node) → All P (vs ++ us) → All P vs
  first_part [] us a = tt
  first_part (v ∷ vs) us a = (a.0, first_part vs us a.1)

  second-part : (vs us : List Node) → All P (vs ++ us) → All P us
  second-part [] us a = a
  second-part (v ∷ vs) us a = second-part vs us a.1

  pub all_map : (Q : Node → Type 0) → ((v : Node) → P v → Q v) → (vs : List Node) → All P vs → All Q vs
  all_map Q f [] a = tt
  all_map Q f (v ∷ vs) a = (f v a.0, all_map Q f vs a.1)

  module _ (l : ℕ) (all : All P (nodes_below l root)) where
    halves : (h : ℕ) (v : Node) → All P (nodes_below (suc h) v)
        → All P (nodes_below h (left v)) × All P (nodes_below h (right v))
    unfolding nodes_below
    halves h v a = (
      first_part (nodes_below h (left v)) (nodes_below h (right v)) a.1,
      second-part (nodes_below h (left v)) (nodes_below h (right v)) a.1,
    )

    below : (j k h : ℕ) → j + h ≡ l → k < 2 ^ j → All P (nodes_below h (record { level = j; index = k }))
    below zero k h e b =
        let z : k ≡ 0 = omega arith in
        let y : h ≡ l = omega arith in
        rw (z, y) all
    below (suc j) k h e b =
        let b' : k / 2 < 2 ^ j = omega (arith, two-pow-succ j) in
        let both = halves h (record { level = j; index = k / 2 }) (below j (k / 2) (suc h) (omega arith) b') in
        ⊎_elim (λ z. rw (← z) both.0) (λ z. rw (← z) both.1) (even-or-odd k)

    pub each-listed : (v : Node) → InTree l v → v.level < l → P v
    unfolding nodes_below
    each-listed v i b = (below v.level v.index (suc (l - suc v.level)) (omega arith) i.among).0
