-- A node as the code carries it. Cited by the contracts of all that go down a table. Assumes nothing.
--
--   Located l v i f w   node v of a table of l levels has number i and covers the w hours from hour f on
use Rattle.std.specs.Prelude.{◌≡◌, ℕ}
use Rattle.om3.specs.Nodes.{Node, InTree, number, start, width}

pub record Located (l : ℕ) (v : Node) (i f w : ℕ) : Type 0 where
  pub in_tree : InTree l v
  pub numbered : (number v).0 ≡ i
  pub begins : start l v ≡ f
  pub covers : width l v ≡ w
