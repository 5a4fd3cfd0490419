-- Of the hours of a node, those that lie in a column are all of them, none of them, or as many as its halves have; of
-- node 1 they are the hours of the column. Assumes nothing.
use Rattle.kit.proofs.{◌≡◌, refl, sym, ap, ◌∙◌, Bool, true, false, List, [], ◌∷◌, ◌++◌, append-nil, ℕ, ◌-◌, ◌^◌, ◌≤◌}
use Rattle.kit.proofs.{None, Option, Some, ◌<◌, arith, ℤ}
use Rattle.words.specs.declared.Summary.{Summary}
use Rattle.words.specs.declared.{Timestamp.Timestamp, Column.Column}
use Rattle.om3.specs.Document.{any, keep, hours_from, Node, root, left, right, hours, in_column, column_hours, shares}
use Rattle.om3.specs.Document.{inside, joined, look_through}
use Rattle.laws.proofs.{Tests.fails-up, Tests.chosen, Windows.hours-cut, Lists.keep_append, Lists.every-kept}
use Rattle.laws.proofs.{Lists.nothing-kept, Nodes.start-root, Nodes.width-root, Nodes.hours-halves}
use Rattle.laws.proofs.LookedThrough.{hour_answer, look-through-more}
use Rattle.laws.proofs.Intervals.{Overlap, Within, any-overlap, within-every}

-- Of hours without a reading none has one.
none-joined : (a b : Option Summary) → joined a b ≡ None → (a ≡ None) × (b ≡ None)
none-joined None b e = (refl, e)
none-joined (Some f) None e = (e, refl)
none-joined (Some f) (Some g) e = (cc, cc)

pub no-reading-kept : (n : ℕ) (s : List ℤ) (p : Timestamp → Bool) (hs : List Timestamp)
    → look_through n s hs ≡ None → look_through n s (keep p hs) ≡ None
unfolding keep
no-reading-kept n s p [] e = e
no-reading-kept n s p (h ∷ hs) e =
    let two = none-joined (hour_answer n s h) (look_through n s hs) (sym (look-through-more n s h hs) ∙ e) in
    let r = no-reading-kept n s p hs two.1 in
    chosen (λ gs. look_through n s gs ≡ None) (p h)
    (λ e. look-through-more n s h (keep p hs) ∙ rw (two.0, r)) (λ e. r)

module _ (l : ℕ) (x : Column) (v : Node) where
  -- The hours of node v that lie in column x.
  abbrev pub hours_shared : List Timestamp
  hours_shared = keep (in_column x) (hours l v)

  pub inside-kept : inside l x v ≡ true → hours_shared ≡ hours l v
  unfolding inside
  inside-kept e = every-kept (in_column x) (hours l v) e

  pub unshared-kept : shares l x v ≡ false → hours_shared ≡ []
  unfolding shares
  unshared-kept e = nothing-kept (in_column x) (hours l v) e

pub halves-kept : (l : ℕ) (x : Column) (v : Node) → v.level < l
    → hours_shared l x v ≡ hours_shared l x (left v) ++ hours_shared l x (right v)
halves-kept l x v b = rw (hours-halves l v b) (keep_append (in_column x) (hours l (left v)) (hours l (right v)))

-- Hours before the column or after it.
module _ (x : Column) where
  outside_kept : (f c : ℕ) → (Overlap x f c → ⊥) → keep (in_column x) (hours_from f c) ≡ []
  outside_kept f c apart =
      nothing-kept (in_column x) (hours_from f c)
      (fails-up (any (in_column x) (hours_from f c)) false (λ e. absurd (apart (any-overlap x f c e))) refl)

  -- All hours of a table are those before the column, its own, and those after it.
  module _ (l : ℕ) (some : x.from.0 ≤ x.upto.0) (most : x.upto.0 ≤ 2 ^ l) where
    abbrev before : List Timestamp
    before = hours_from 0 (x.from.0 - 0)

    abbrev after : List Timestamp
    after = hours_from x.upto.0 (2 ^ l - x.upto.0)

    hours-root : hours l root ≡ before ++ (column_hours x ++ after)
    unfolding hours
    hours-root =
        let e : 2 ^ l ≡ 2 ^ l - 0 = omega arith in
        rw (start-root l, width-root l) (ap (hours_from 0) e)
        ∙ hours-cut 0 x.from.0 (2 ^ l) (omega arith) (omega arith)
        ∙ ap (λ (hs : List Timestamp). before ++ hs) (hours-cut x.from.0 x.upto.0 (2 ^ l) some most)

    pub root_kept : hours_shared l x root ≡ column_hours x
    root_kept =
        let inner : Within x x.from.0 (x.upto.0 - x.from.0) =
        record { after = omega arith; before = omega arith }
        in
        rw (
          hours-root,
          keep_append (in_column x) before (column_hours x ++ after),
          keep_append (in_column x) (column_hours x) after,
          outside_kept 0 (x.from.0 - 0) (λ o. omega (arith, o.reaches)),
          every-kept (in_column x) (column_hours x) (within-every x x.from.0 (x.upto.0 - x.from.0) inner),
          outside_kept x.upto.0 (2 ^ l - x.upto.0) (λ o. omega (arith, o.begins)),
        )
        (append-nil (column_hours x))
