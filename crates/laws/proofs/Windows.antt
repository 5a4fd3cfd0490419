-- The columns of a window hold its hours, each once and in order, and none before or after it. Assumes nothing.
use Rattle.kit.proofs.{◌≡◌, sym, ap, ◌∙◌, List, ◌++◌, map, map-append, flat_map, ℕ, zero, suc, ◌+◌, ◌-◌, ◌≤◌, ◌<◌}
use Rattle.kit.proofs.{add-zero, sub_self, zero-add, arith}
use Rattle.words.specs.declared.Timestamp.{Timestamp}
use Rattle.om3.specs.Document.{up_from, hour, hours_from, edge, column, column_hours}
use Rattle.laws.proofs.{Lists.up-append, Edges.edge-first, Edges.edge-last, Edges.edge-mono}

hours-append : (f a b : ℕ) → hours_from f (a + b) ≡ hours_from f a ++ hours_from (f + a) b
hours-append f a b = rw (up-append f a b) (map-append hour (up_from f a) (up_from (f + a) b))

-- The hours from f up to, not including, h are cut at any hour g between.
pub hours-cut : (f g h : ℕ) → f ≤ g → g ≤ h → hours_from f (h - f) ≡ hours_from f (g - f) ++ hours_from g (h - g)
hours-cut f g h p q =
    let e : h - f ≡ g - f + (h - g) = omega arith in
    let m : f + (g - f) ≡ g = omega arith in
    ap (hours_from f) e ∙ hours-append f (g - f) (h - g)
    ∙ ap (λ (k : ℕ). hours_from f (g - f) ++ hours_from k (h - g)) m

module _ (a b w : ℕ) (some : 1 ≤ w) where
  abbrev at : ℕ → ℕ
  at k = (edge a b w k).0

  -- The c columns from column k on: from the first hour of column k up to the first hour of column k + c.
  columns-from : (k c : ℕ)
      → flat_map column_hours (map (column a b w) (up_from k c)) ≡ hours_from (at k) (at (k + c) - at k)
  unfolding up_from flat_map
  columns-from k zero = rw (add-zero k, sub_self (at k))
  columns-from k (suc c) =
      let e : k + 1 + c ≡ k + suc c = omega arith in
      ap (λ (hs : List Timestamp). column_hours (column a b w k) ++ hs) (columns-from (k + 1) c)
      ∙ rw e (sym (hours-cut (at k) (at (k + 1)) (at (k + suc c))
      (edge-mono a b w some k (k + 1) (omega arith)) (edge-mono a b w some (k + 1) (k + suc c) (omega arith))))

  module _ (ordered : a ≤ b) where
    pub window-columns : flat_map column_hours (map (column a b w) (up_from 0 w)) ≡ hours_from a (b - a)
    window-columns =
        columns-from 0 w
        ∙ rw (zero-add w, edge-first a b w some, edge-last a b w some ordered)

    -- A column of the window ends by the window's end.
    module _ (k : ℕ) (below : k < w) where
      pub column-before : (column a b w k).upto.0 ≤ b
      column-before = omega (arith, edge-last a b w some ordered, edge-mono a b w some (k + 1) w (omega arith))
