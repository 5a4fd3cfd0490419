-- The visit from the root values: node 0 is examined first, and a visit from node 1 is over the whole table. Assumes
-- nothing.
use Rattle.kit.proofs.{◌≡◌, refl, ◌∙◌, List, ℕ, ◌-◌, arith, ℤ, pos, get_or, Option, Err, None, Result, Some}
use Rattle.words.specs.declared.NodeId.{NodeId}
use Rattle.sight.specs.declared.Seen.{Seen}
use Rattle.words.specs.declared.{Column.Column, Range.Range}
use Rattle.om3.specs.Document.{levels, P, root, Table, lent, root_range, in_order, sound_root_values, examine, outer}
use Rattle.om3.specs.Document.{inner_nodes}
use Rattle.laws.proofs.{Levels.levels-most, BelowOpened.visited-root}
use Rattle.node.proofs.Located.{root-located}
use Rattle.node.specs.Steps.{root_of}
use Rattle.examining.proofs.Answers.{Rooted, rooted, not-rooted}
use Rattle.examining.proofs.AtRoot.{root-readings, root-reached}
use Rattle.stepping.specs.Nodes.{LentTo, At, Below}
use Rattle.stepping.specs.declared.Reached.{Reached}
use Rattle.sight.{specs.Seen.seen_of, specs.Seen.table_seen, proofs.SeenTogether.seen_same}
use Rattle.visiting.specs.Visiting.{VisitedFrom, TableVisited}
use Rattle.visiting.proofs.Visiting.{not_through}

module _ (n : ℕ) (cs : List ℤ) (ks : List ℕ) (x : Column) (stop : ℕ) where
  abbrev l : ℕ
  l = levels n

  abbrev T : Table
  T = lent cs ks

  abbrev a : ℤ
  a = get_or cs 0 (pos 0)

  abbrev b : ℤ
  b = get_or cs 1 (pos 0)

  pub root-unsound : root_of a b ≡ None → TableVisited n cs ks x stop (Err (record { 0 = 0 }))
  unfolding examine in_order
  root-unsound h =
      record {
        few = λ s e. absurd (not_through e);
        below = λ s e. absurd (not_through e);
        examined = λ d asked. rw (not-rooted (sound_root_values a b) (root_range a b) h);
        saw = λ d asked s e. absurd (not_through e);
      }

  module _ (range : Option Range) (h : root_of a b ≡ Some range) where
    -- Node 1, as the code carries it.
    abbrev top : Reached
    top = record { id = record { 0 = 1 }; from = record { 0 = 0 }; hours = P n; range = range }

    top-at : At l T root top
    top-at = record { located = root-located l; range = root-reached n cs ks range h }

    pub top_below : LentTo stop l cs ks → Below stop cs ks top
    top_below lends =
        record {
          levels = l;
          node = root;
          most = levels-most n;
          table = lends;
          located = root-located l;
          readings = root-readings cs h;
        }

    abbrev H : Rooted (sound_root_values a b) (root_range a b) range
    H = rooted (sound_root_values a b) (root_range a b) h

    abbrev all-levels : l - 0 ≡ l
    all-levels = omega arith

    seen-table : (d : ℕ) → seen_of l T x d 0 root ≡ table_seen l T x d
    unfolding outer inner_nodes
    seen-table d = rw all-levels (seen_same refl refl (omega arith))

    pub top-visited : (r : Result Seen NodeId) → VisitedFrom n cs ks x stop 0 top r → TableVisited n cs ks x stop r
    unfolding examine in_order
    top-visited r W =
        record {
          few = λ s e. omega (arith, W.few s e);
          below = W.below;
          examined = λ d asked.
              let w = W.visits l d root asked top-at (visited-root l T x d) in
              rw H.is_sound (rw all-levels at w.examined);
          saw = λ d asked s e. (W.visits l d root asked top-at (visited-root l T x d)).saw s e ∙ seen-table d;
        }
