-- A test that each node of the tree passes is passed by each node of the list of examination, and the other way round.
-- Assumes nothing.
use Rattle.kit.proofs.{◌≡◌, refl, sym, ap, ◌∙◌, Bool, true, ◌&&◌, and_assoc, List, [], ◌∷◌, ◌++◌, ℕ, zero, suc, ◌+◌}
use Rattle.kit.proofs.{◌≤◌, ◌<◌, arith}
use Rattle.om3.specs.Document.{every, Node, InTree, root, left, right, nodes_below, table_nodes}
use Rattle.laws.proofs.{Nodes.root_in, Nodes.left_in, Nodes.right-in, Listed.All, Listed.each-listed}
use Rattle.laws.proofs.Tests.{and_left, and_right, both_true}

pub every_append : {A : Type 0} (p : A → Bool) (xs ys : List A) → every p (xs ++ ys) ≡ (every p xs && every p ys)
unfolding every
every_append p [] ys = refl
every_append p (x ∷ xs) ys =
    ap (λ (b : Bool). p x && b) (every_append p xs ys) ∙ sym (and_assoc (p x) (every p xs) (every p ys))

module _ (l : ℕ) (p : Node → Bool) where
  -- From each node of the tree to the list.
  module _ (each : (v : Node) → InTree l v → v.level < l → p v ≡ true) where
    pub list-from-each : (h : ℕ) (v : Node) → InTree l v → v.level + h ≤ l → every p (nodes_below h v) ≡ true
    unfolding nodes_below every
    list-from-each zero v i b = refl
    list-from-each (suc h) v i b =
        let d : v.level < l = omega arith in
        let b' : suc v.level + h ≤ l = omega arith in
        both_true (each v i d)
        (every_append p (nodes_below h (left v)) (nodes_below h (right v))
        ∙ both_true (list-from-each h (left v) (left_in i d) b') (list-from-each h (right v) (right-in i d) b'))

    pub table-from-each : every p (table_nodes l) ≡ true
    table-from-each = list-from-each l root (root_in l) (omega arith)

  -- From the list to each node of the tree.
  every-all : (vs : List Node) → every p vs ≡ true → All (λ v. p v ≡ true) vs
  unfolding every
  every-all [] e = tt
  every-all (v ∷ vs) e = (and_left (p v) (every p vs) e, every-all vs (and_right (p v) (every p vs) e))

  pub each-in-table : every p (table_nodes l) ≡ true → (v : Node) → InTree l v → v.level < l → p v ≡ true
  each-in-table all = each-listed (λ v. p v ≡ true) l (every-all (table_nodes l) all)
