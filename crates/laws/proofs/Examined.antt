-- Checks one after another; the examination of a table passes exactly if every node of it is sound. Assumes nothing.
use Rattle.kit.proofs.{◌≡◌, refl, sym, ap, ◌∙◌, Bool, true, false, ◌&&◌, List, [], ◌∷◌, ◌++◌, ◌↔◌, ℕ, arith}
use Rattle.signed.proofs.{clash}
use Rattle.words.specs.declared.{Refusal.Refusal, NodeId.NodeId}
use Rattle.om3.specs.Document.{every, Node, number, Table, coefficient_at, Check, passes, refuses, refuse_if, and_then}
use Rattle.om3.specs.Document.{in_order, answer_by, FirstCause, sound_root_values, sound_node, table_nodes, sound_table}
use Rattle.om3.specs.Document.{examine_node, examine_nodes, examine}

-- A first and a second check pass only if both do; a check passes only if its cause is not there.
pub then-first : (c d : Check) → and_then c d ≡ passes → c ≡ passes
then-first passes d e = refl
then-first (refuses r) d e = cc

pub then-second : (c d : Check) → and_then c d ≡ passes → d ≡ passes
then-second passes d e = e
then-second (refuses r) d e = cc

pub refuse-not : (b : Bool) (r : Refusal) → refuse_if b r ≡ passes → b ≡ false
refuse-not true r e = let z : passes ≡ refuses r = sym e in cc
refuse-not false r e = refl

pub then-passes : (c : Check) → and_then c passes ≡ c
then-passes passes = refl
then-passes (refuses r) = refl

-- The same of checks in order: the first and the others pass, and the cause of the first is not there.
pub order-parts : (c : Check) (cs : List Check) → in_order (c ∷ cs) ≡ passes → (c ≡ passes) × (in_order cs ≡ passes)
unfolding in_order
order-parts c cs e = (then-first c (in_order cs) e, then-second c (in_order cs) e)

pub first_absent : (b : Bool) (r : Refusal) (cs : List Check) → in_order (refuse_if b r ∷ cs) ≡ passes
    → (b ≡ false) × (in_order cs ≡ passes)
first_absent b r cs e = let h = order-parts (refuse_if b r) cs e in (refuse-not b r h.0, h.1)

pub then-assoc : (c d e : Check) → and_then c (and_then d e) ≡ and_then (and_then c d) e
then-assoc passes d e = refl
then-assoc (refuses r) d e = refl

-- Checks in a list and then those of another.
pub in-order-append : (cs ds : List Check) → in_order (cs ++ ds) ≡ and_then (in_order cs) (in_order ds)
unfolding in_order
in-order-append [] ds = refl
in-order-append (c ∷ cs) ds = ap (and_then c) (in-order-append cs ds) ∙ then-assoc c (in_order cs) (in_order ds)

-- A list of checks refuses by its first cause, and by no other.
causes : (cs : List Check) (why : Refusal) → in_order cs ≡ refuses why → FirstCause cs why
unfolding in_order
causes [] why e = let z : ◌≡◌ {A = ℕ} 0 1 = cc in absurd (omega arith)
causes (passes ∷ cs) why e =
    let f = causes cs why e in
    record {
      before = passes ∷ f.before;
      after = f.after;
      among = ap (λ ds. passes ∷ ds) f.among;
      passed = f.passed;
    }
causes (refuses r ∷ cs) why e =
    let same : r ≡ why = cc in
    record { before = []; after = cs; among = rw same; passed = refl }

pub first-cause : (cs : List Check) (why : Refusal) → (in_order cs ≡ refuses why) ↔ FirstCause cs why
unfolding in_order
first-cause cs why = (
  causes cs why,
  λ f. rw f.among (in-order-append f.before (refuses why ∷ f.after) ∙ rw f.passed),
)

-- A call answers a refusal exactly if its cause is the first of the call's checks, since it tells refusals apart from
-- each other and from what it answers where they all pass. [refusals 17, 18, 19, 20]
module _ {A : Type 0} (refused : Refusal → A) (taken : A) (one : (y z : Refusal) → refused y ≡ refused z → y ≡ z)
    (apart : (z : Refusal) → taken ≡ refused z → passes ≡ refuses z) (why : Refusal) where
  answered-by : (c : Check) → (answer_by refused c taken ≡ refused why) ↔ (c ≡ refuses why)
  answered-by passes = (apart why, λ e. cc)
  answered-by (refuses z) = (λ e. ap refuses (one z why e), λ e. cc)

  pub refused-exactly : (cs : List Check) → (answer_by refused (in_order cs) taken ≡ refused why) ↔ FirstCause cs why
  refused-exactly cs =
      let by = answered-by (in_order cs) in
      let first = first-cause cs why in
      (λ e. first.0 (by.0 e), λ f. by.1 (first.1 f))

-- One more node and those after it pass exactly if it is sound and those after it pass.
node-passes : (i : NodeId) (b : Bool) (c : Check) (rest : Bool) → (c ≡ passes) ↔ (rest ≡ true)
    → (and_then (examine_node i b) c ≡ passes) ↔ ((b && rest) ≡ true)
node-passes i true c rest e = e
node-passes i false c rest e = (λ h. cc, λ h. clash h)

module _ (l n : ℕ) (t : Table) where
  nodes-pass : (vs : List Node) → (examine_nodes l n t vs ≡ passes) ↔ (every (sound_node l n t) vs ≡ true)
  unfolding in_order every
  nodes-pass [] = (λ h. refl, λ h. refl)
  nodes-pass (v ∷ vs) = node-passes (number v) (sound_node l n t v) _ (every (sound_node l n t) vs) (nodes-pass vs)

  -- A table is taken by its examination exactly if it is sound. [sound 5, 6]
  pub examine-sound : (examine l n t (table_nodes l) ≡ passes) ↔ (sound_table l n t ≡ true)
  unfolding examine sound_table in_order
  examine-sound =
      node-passes (record { 0 = 0 }) (sound_root_values (coefficient_at t 0) (coefficient_at t 1)) _
      (every (sound_node l n t) (table_nodes l)) (nodes-pass (table_nodes l))
