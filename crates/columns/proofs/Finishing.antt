-- A finished column, for each answer of the visit: a column without an inside node has no reading, and else the walks
-- begin at its first and at its last inside node. Assumes nothing.
use Rattle.kit.proofs.{◌≡◌, refl, sym, ap, ◌∙◌, false, List, [], ◌∷◌, ◌++◌, map, map-append, append-nil, flat_map, ℕ}
use Rattle.kit.proofs.{Err, None, Ok, Option, Result, ◌+◌, ◌-◌, ◌*◌, ◌≤◌, ◌<◌, le_refl, arith, ℤ, leb, le-leb, lt-leb}
use Rattle.std.specs.Result.{MatchResult}
use Rattle.words.specs.declared.Summary.{Summary}
use Rattle.words.specs.Said.{finished_as}
use Rattle.sight.specs.Seen.{inner_as}
use Rattle.words.specs.declared.{Column.Column, Finished.Finished, NodeId.NodeId, Range.Range, Refusal.Refusal}
use Rattle.words.specs.declared.{Refusal.TheVariants.Unsound}
use Rattle.om3.specs.Document.{last_of, levels, Node, InTree, number, Table, lent, Check, passes, and_then, in_order}
use Rattle.om3.specs.Document.{answer_by, sound_node, examine, examine_node, examine_nodes, examine_root, opened_nodes}
use Rattle.om3.specs.Document.{count_at, range_over, examine_column, nodes_of, first_walk, last_walk, inside_nodes}
use Rattle.om3.specs.Document.{walks_from, answer, count, finished_nodes}
use Rattle.laws.proofs.{Examined.then-assoc, Examined.in-order-append, Listed.All, NeverRefused.last-in}
use Rattle.laws.proofs.{WithoutHours.none_inside, WithoutHours.none-count}
use Rattle.laws.proofs.KeptNodes.{NonEmpty, inside-inner, inside-non-empty}
use Rattle.stepping.specs.Nodes.{reached_of, At, Below, StopsAt}
use Rattle.stepping.specs.declared.Reached.{Reached}
use Rattle.sight.specs.{Seen.inner_over, Seen.table_seen, declared.Inner.Inner, declared.Seen.Seen}
use Rattle.visiting.specs.{Visiting.TableVisited}
use Rattle.columns.specs.Drawing.{Answers, walks_check, found_of, FoundFrom, finished_answer, FinishedOver}

-- What is told of an unsound node: no value, and the refusal that names it.
abbrev pub RefusedBy : {T : Type 0} → Result T NodeId → Refusal → Type 0
RefusedBy r why = MatchResult r (λ x. ⊥) (λ i. why ≡ Unsound i)

-- The same as `map_err` tells it, and a value that it leaves as it is.
pub refused-by : {T : Type 0} (r : Result T NodeId) (why : Refusal)
    → MatchResult r (λ (x : T). ◌≡◌ {A = Result T Refusal} (Err why) (Ok x)) (λ i. why ≡ Unsound i) → RefusedBy r why
refused-by (Ok x) why e = let z : ◌≡◌ {A = ℕ} 0 1 = cc in omega arith
refused-by (Err i) why e = e

pub left-by : {T : Type 0} (r : Result T NodeId) (y : T)
    → MatchResult r (λ (x : T). ◌≡◌ {A = Result T Refusal} (Ok y) (Ok x)) (λ i. ⊥) → r ≡ Ok y
left-by (Ok x) y e = cc
left-by (Err i) y e = absurd e

pub not-answered : {why : Refusal} {a : Option Summary} {m : ℕ} → Err why ≡ finished_as a m → ⊥
not-answered e = let z : ◌≡◌ {A = ℕ} 0 1 = cc in omega arith

pub answer_same : {a b : Option Summary} {m k : ℕ} → finished_as a m ≡ finished_as b k → a ≡ b
answer_same {a} {b} {m} {k} e =
    let same : ◌≡◌ {A = Finished} (record { answer = a; count = m }) (record { answer = b; count = k }) = cc in
    ap (λ (f : Finished). f.answer) same

none-small : {m : ℕ} → Answers (finished_as None m)
none-small = record { small = λ a m e. rw (sym (answer_same e)) tt }

pub refused-small : {why : Refusal} → Answers (Err why)
refused-small = record { small = λ a m e. absurd (not-answered e) }

-- Nodes examined after others.
module _ (l n : ℕ) (t : Table) where
  nodes-append : (vs us : List Node)
      → examine_nodes l n t (vs ++ us) ≡ and_then (examine_nodes l n t vs) (examine_nodes l n t us)
  nodes-append vs us =
      let one : Node → Check = λ v. examine_node (number v) (sound_node l n t v) in
      ap in_order (map-append one vs us) ∙ in-order-append (map one vs) (map one us)

  examine-append : (vs us : List Node)
      → examine l n t (vs ++ us) ≡ and_then (examine l n t vs) (examine_nodes l n t us)
  unfolding examine
  examine-append vs us =
      ap (and_then (examine_root t)) (nodes-append vs us)
      ∙ then-assoc (examine_root t) (examine_nodes l n t vs) (examine_nodes l n t us)

-- A node of the tree as the code carries it is at its place.
placed : {l : ℕ} (t : Table) (v : Node) → InTree l v → (at : Reached) → at ≡ reached_of l t v → At l t v at
placed t v i at e =
    rw e
    (record {
      located = record { in_tree = i; numbered = refl; begins = refl; covers = refl };
      range = refl;
    })

-- The nodes of an inner range, from what the visit says of them.
nothing-list : (l : ℕ) (t : Table) (vs : List Node) → None ≡ inner_over l t vs → vs ≡ []
nothing-list l t [] e = refl
nothing-list l t (v ∷ vs) e = let z : ◌≡◌ {A = ℕ} 0 1 = cc in absurd (omega arith)

pub record NodesOf (l : ℕ) (t : Table) (x : Column) (range : Option Range) (first last : Reached) : Type 0 where
  pub node : Node
  pub further : List Node
  pub list : inside_nodes l t x ≡ node ∷ further
  pub over : range ≡ range_over l t (node ∷ further)
  pub begins : first ≡ reached_of l t node
  pub ends : last ≡ reached_of l t (last_of node further)

nodes-list : (l : ℕ) (t : Table) (x : Column) (range : Option Range) (first last : Reached) (vs : List Node)
    → inside_nodes l t x ≡ vs → inner_as range first last ≡ inner_over l t vs → NodesOf l t x range first last
nodes-list l t x range first last [] h e = let z : ◌≡◌ {A = ℕ} 0 1 = cc in absurd (omega arith)
nodes-list l t x range first last (v ∷ vs) h e =
    let met : Inner = record { range = range; first = first; last = last } in
    let seen : Inner = record {
      range = range_over l t (v ∷ vs);
      first = reached_of l t v;
      last = reached_of l t (last_of v vs);
    } in
    let same : met ≡ seen = cc in
    record {
      node = v;
      further = vs;
      list = h;
      over = ap (λ (i : Inner). i.range) same;
      begins = ap (λ (i : Inner). i.first) same;
      ends = ap (λ (i : Inner). i.last) same;
    }

-- The first and the last of them, at their places.
module _ (n : ℕ) (t : Table) (x : Column) (range : Option Range) (first last : Reached)
    (N : NodesOf (levels n) t x range first last) where
  all_held : All (NonEmpty (levels n) t) (N.node ∷ N.further)
  all_held = rw N.list at (inside-non-empty (levels n) t x)

  first-at : At (levels n) t N.node first
  first-at = placed t N.node all_held.0.in_tree first N.begins

  last-at : At (levels n) t (last_of N.node N.further) last
  last-at =
      let i = last-in (levels n) t N.node N.further all_held.0.in_tree all_held.1 in
      placed t (last_of N.node N.further) i last N.ends

module _ (n : ℕ) (cs : List ℤ) (ks : List ℕ) (x : Column) where
  abbrev l : ℕ
  l = levels n

  abbrev T : Table
  T = lent cs ks

  -- No hour: the table is not examined.
  pub finished-none : x.upto.0 ≤ x.from.0 → FinishedOver n cs ks x (finished_as None 0)
  finished-none h =
      let none = le-leb x.upto.0 x.from.0 h in
      record { answers = none-small; answer = rw (none, none_inside l T x h, none-count l T x h l) }

  module _ (some : x.from.0 < x.upto.0) where
    abbrev hours : leb x.upto.0 x.from.0 ≡ false
    hours = lt-leb x.upto.0 x.from.0 some

    asked : StopsAt l l x 1
    asked =
        let z : l - l ≡ 0 = omega arith in
        record { deep = le_refl l; stops = rw z; some = some }

    pub finished-unsound : (r : Result Seen NodeId) → TableVisited n cs ks x 1 r → (why : Refusal) → RefusedBy r why
        → FinishedOver n cs ks x (Err why)
    finished-unsound (Ok s) W why told = absurd told
    finished-unsound (Err i) W why told =
        let more = flat_map (nodes_of l) (walks_from l T (inside_nodes l T x)) in
        record {
          answers = refused-small;
          answer = rw (told, hours, examine-append l n T (opened_nodes l T x l) more, sym (W.examined l asked));
        }

    -- The visit is through.
    module _ (s : Seen) (W : TableVisited n cs ks x 1 (Ok s)) where
      opened-pass : examine l n T (opened_nodes l T x l) ≡ passes
      opened-pass = sym (W.examined l asked)

      seen : s ≡ table_seen l T x l
      seen = W.saw l asked s refl

      inner-seen : s.inner ≡ inner_over l T (inside_nodes l T x)
      inner-seen = ap (λ (u : Seen). u.inner) seen ∙ ap (inner_over l T) (sym (inside-inner l T x))

      pub inner-nodes : (range : Option Range) (first last : Reached) → s.inner ≡ inner_as range first last
          → NodesOf l T x range first last
      inner-nodes range first last e =
          nodes-list l T x range first last (inside_nodes l T x) refl (sym e ∙ inner-seen)

      pub nodes-below : (range : Option Range) (first last : Reached) → s.inner ≡ inner_as range first last
          → Below 1 cs ks first × Below 1 cs ks last
      nodes-below range first last e = rw e at (W.below s refl)

      count-is : 1 + 2 * s.opened ≡ count_at l T x l
      unfolding count_at
      count-is = rw hours (ap (λ (u : Seen). 1 + 2 * u.opened) seen)

      -- Only the walks are still to examine.
      walks-left : examine_column l T x n (finished_nodes l T x)
          ≡ examine_nodes l n T (flat_map (nodes_of l) (walks_from l T (inside_nodes l T x)))
      walks-left = rw (hours, examine-append l n T (opened_nodes l T x l) _, opened-pass)

      pub finished-nothing : s.inner ≡ None
          → FinishedOver n cs ks x (finished_as None (1 + 2 * s.opened))
      unfolding in_order flat_map
      finished-nothing e =
          let none = nothing-list l T (inside_nodes l T x) (sym e ∙ inner-seen) in
          let count : 1 + 2 * s.opened ≡ count_at l T x l + 0 = omega (arith, count-is) in
          record { answers = none-small; answer = rw (walks-left, none, count) }

      -- The column has inside nodes, u the first of them and v the last.
      module _ (u : Node) (us : List Node) (list : inside_nodes l T x ≡ u ∷ us) where
        abbrev v : Node
        v = last_of u us

        walks-checked : examine_column l T x n (finished_nodes l T x) ≡ walks_check l n T u v
        unfolding last_of flat_map
        walks-checked =
            walks-left
            ∙ rw (list, append-nil (nodes_of l (last_walk l T v)))
            (nodes-append l n T (nodes_of l (first_walk l T u)) _)

        answer-is : answer l T x ≡ found_of l T (range_over l T (u ∷ us)) u v
        answer-is = rw list

        count-all : count l T x ≡ 1 + 2 * s.opened + (l - u.level) + (l - v.level)
        count-all = rw list (omega (arith, count-is))

        found-is : (range : Option Range) → range ≡ range_over l T (u ∷ us)
            → answer_by Err (walks_check l n T u v)
            (finished_as (found_of l T range u v) (1 + 2 * s.opened + (l - u.level) + (l - v.level)))
            ≡ answer_by Err (examine_column l T x n (finished_nodes l T x)) (finished_answer n T x)
        found-is range e = rw (e, walks-checked, sym answer-is, sym count-all)

      pub finished-nodes : (range : Option Range) (first last : Reached) → s.inner ≡ inner_as range first last
          → (r : Result Finished Refusal) → FoundFrom n cs ks range first last (1 + 2 * s.opened) r
          → FinishedOver n cs ks x r
      finished-nodes range first last e r F =
          let N = inner-nodes range first last e in
          let u = N.node in
          let us = N.further in
          record {
            answers = F.answers;
            answer =
                F.answer l u (last_of u us) (first-at n T x range first last N)
                (last-at n T x range first last N)
                ∙ found-is u us N.list range N.over;
          }
