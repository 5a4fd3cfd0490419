-- A sound table is never refused by 4 where a column is asked for: the nodes that are opened, and those on the walks to
-- the first and to the last reading, are nodes of the table, so each of them is sound. Assumes nothing.
use Rattle.kit.proofs.{◌≡◌, refl, Bool, true, false, cond, List, [], ◌∷◌, ◌++◌, flat_map, ℕ, zero, suc, ◌+◌, ◌≤◌, ◌<◌}
use Rattle.kit.proofs.{le_refl, arith}
use Rattle.words.specs.declared.Column.{Column}
use Rattle.om3.specs.Document.{last_of, Node, InTree, Table, Check, passes, in_order, sound_table, examine}
use Rattle.om3.specs.Document.{examine_nodes, no_hour, opened_nodes, examine_column, walk_nodes, nodes_of}
use Rattle.om3.specs.Document.{towards_first, towards_last, first_walk, last_walk, walks_from, inside_nodes}
use Rattle.om3.specs.Document.{finished_nodes}
use Rattle.laws.proofs.{Listed.All, Listed.all_append, SoundTables.root-sound, SoundTables.node-sound}
use Rattle.laws.proofs.WalksEnd.{Taken, first_taken, last_taken}
use Rattle.laws.proofs.KeptNodes.{Above, NonEmpty, opened-above, inside-non-empty}

walk-above : (l : ℕ) (half : Node → Node) → ((v : Node) → InTree l v → v.level < l → Taken l v (half v))
    → (h : ℕ) (v : Node) → v.level + h ≡ l → InTree l v → All (Above l) (walk_nodes half h v)
unfolding walk_nodes
walk-above l half takes zero v e i = tt
walk-above l half takes (suc h) v e i =
    let a : Above l v = record { in_tree = i; above = omega arith } in
    let p = takes v i a.above in
    (a, walk-above l half takes h (half v) (omega (arith, p.below)) p.in_tree)

-- The last of some nodes of the tree is one.
pub last-in : (l : ℕ) (t : Table) (v : Node) (vs : List Node) → InTree l v → All (NonEmpty l t) vs
    → InTree l (last_of v vs)
unfolding last_of
last-in l t v [] i a = i
last-in l t v (u ∷ us) i a = last-in l t u us a.0.in_tree a.1

module _ (l : ℕ) (t : Table) where
  first_above : (v : Node) → InTree l v → All (Above l) (nodes_of l (first_walk l t v))
  first_above v i = let d = i.deep in walk-above l (towards_first l t) (first_taken l t) _ _ (omega arith) i

  last-above : (v : Node) → InTree l v → All (Above l) (nodes_of l (last_walk l t v))
  last-above v i = let d = i.deep in walk-above l (towards_last l t) (last_taken l t) _ _ (omega arith) i

  walks-above : (vs : List Node) → All (NonEmpty l t) vs → All (Above l) (flat_map (nodes_of l) (walks_from l t vs))
  unfolding flat_map
  walks-above [] a = tt
  walks-above (v ∷ vs) a =
      let L = nodes_of l (last_walk l t (last_of v vs)) in
      all_append (Above l) (nodes_of l (first_walk l t v)) (L ++ []) (first_above v a.0.in_tree)
      (all_append (Above l) L [] (last-above (last_of v vs) (last-in l t v vs a.0.in_tree a.1)) tt)

-- A column without an hour is not examined.
pub hour-or-passes : (b : Bool) (c : Check) → c ≡ passes → cond b passes c ≡ passes
hour-or-passes true c e = refl
hour-or-passes false c e = e

module _ (l n : ℕ) (t : Table) (ok : sound_table l n t ≡ true) where
  nodes-pass : (vs : List Node) → All (Above l) vs → examine_nodes l n t vs ≡ passes
  unfolding in_order
  nodes-pass [] a = refl
  nodes-pass (v ∷ vs) a = rw (node-sound l n t ok v a.0.in_tree a.0.above) (nodes-pass vs a.1)

  -- Nodes of the tree above its single hours pass.
  examine-passes : (vs : List Node) → All (Above l) vs → examine l n t vs ≡ passes
  unfolding examine in_order
  examine-passes vs a = rw (root-sound l n t ok) (nodes-pass vs a)

  module _ (x : Column) where
    pub opened-passes : (d : ℕ) → d ≤ l → examine_column l t x n (opened_nodes l t x d) ≡ passes
    opened-passes d deep =
        hour-or-passes (no_hour x) _ (examine-passes (opened_nodes l t x d) (opened-above l t x d deep))

    pub finished-passes : examine_column l t x n (finished_nodes l t x) ≡ passes
    finished-passes =
        let W = flat_map (nodes_of l) (walks_from l t (inside_nodes l t x)) in
        hour-or-passes (no_hour x) _
        (examine-passes (finished_nodes l t x)
        (all_append (Above l) (opened_nodes l t x l) W (opened-above l t x l (le_refl l))
        (walks-above l t (inside_nodes l t x) (inside-non-empty l t x))))
