-- Two tables that agree at the places of a table of l levels reach the same ranges, and one is sound if the other is:
-- what lies beyond is not looked at. Assumes nothing.
use Rattle.kit.proofs.{◌≡◌, refl, ◌∙◌, true, cond, ⊎_elim, ℕ, zero, suc, ◌+◌, ◌-◌, ◌*◌, ◌/◌, ◌%◌, ◌^◌, ◌≤◌, ◌<◌, Option}
use Rattle.kit.proofs.{two-pow-succ, eq-or-lt_of_le, arith, eqb, get_or, pow_pos, pow_mono}
use Rattle.words.specs.declared.Range.{Range}
use Rattle.om3.specs.Document.{every, Node, InTree, number, Table, coefficient_at, low_detail_at, high_detail_at}
use Rattle.om3.specs.Document.{code_at, left_of, right_of, reached_at, sound_root_values, sound_node, table_nodes}
use Rattle.om3.specs.Document.{sound_table}
use Rattle.laws.proofs.Tests.{and_left, and_right, both_true}
use Rattle.laws.proofs.NodeLists.{table-from-each, each-in-table}
use Rattle.laws.proofs.Nodes.{pair-yes, pair-no, detail-room, code-room}

pub record Agree (l : ℕ) (t u : Table) : Type 0 where
  pub coefficients : (p : ℕ) → p < 2 ^ l → coefficient_at t p ≡ coefficient_at u p
  pub codes : (p : ℕ) → p < 2 ^ l / 2 → get_or t.codes p 0 ≡ get_or u.codes p 0

module _ (l : ℕ) (t u : Table) (same : Agree l t u) where
  module _ (v : Node) (i : InTree l v) where
    low-agrees : suc v.level < l → low_detail_at t (number v) ≡ low_detail_at u (number v)
    low-agrees h = same.coefficients (2 * (number v).0) (omega (arith, detail-room l v i h))

    high-agrees : suc v.level < l → high_detail_at t (number v) ≡ high_detail_at u (number v)
    high-agrees h = same.coefficients (2 * (number v).0 + 1) (detail-room l v i h)

    code-agrees : suc v.level ≡ l → code_at l t (number v) ≡ code_at l u (number v)
    code-agrees h = same.codes ((number v).0 - 2 ^ l / 2) (code-room l v i h)

    halves-agree : v.level < l → (r : Option Range)
        → (left_of l t v r ≡ left_of l u v r) × (right_of l t v r ≡ right_of l u v r)
    halves-agree b r =
        ⊎_elim (λ h. rw (pair-yes l v h, code-agrees h) (refl, refl))
        (λ h. rw (pair-no l v h, low-agrees h, high-agrees h) (refl, refl)) (eq-or-lt_of_le b)

  module _ (o : 1 ≤ l) where
    pub reached-agrees : (j k : ℕ) → j ≤ l → k < 2 ^ j → reached_at l t j k ≡ reached_at l u j k
    unfolding reached_at
    reached-agrees zero k le b = rw (same.coefficients 0 (pow_pos l), same.coefficients 1 (pow_mono o))
    reached-agrees (suc j) k le b =
        let b' : k / 2 < 2 ^ j = omega (arith, two-pow-succ j) in
        let v : Node = record { level = j; index = k / 2 } in
        let i : InTree l v = record { deep = omega arith; among = b' } in
        let r = reached_at l u j (k / 2) in
        rw (reached-agrees j (k / 2) i.deep b')
        (let both = halves-agree v i le r in λ d. cond (eqb (k % 2) 0) (both.0 d) (both.1 d))

    node-agrees : (n : ℕ) (v : Node) → InTree l v → v.level < l → sound_node l n t v ≡ sound_node l n u v
    unfolding sound_node
    node-agrees n v i b =
        let r = reached-agrees v.level v.index i.deep i.among in
        ⊎_elim
        (λ h. rw (pair-yes l v h, r, code-agrees v i h))
        (λ h. rw (pair-no l v h, r, low-agrees v i h, high-agrees v i h))
        (eq-or-lt_of_le b)

    pub sound-agrees : (n : ℕ) → sound_table l n u ≡ true → sound_table l n t ≡ true
    unfolding sound_table
    sound-agrees n ok =
        let R = sound_root_values (coefficient_at u 0) (coefficient_at u 1) in
        let each = each-in-table l (sound_node l n u) (and_right R (every (sound_node l n u) (table_nodes l)) ok) in
        rw (same.coefficients 0 (pow_pos l), same.coefficients 1 (pow_mono o))
        (both_true {a = R} (and_left R (every (sound_node l n u) (table_nodes l)) ok)
        (table-from-each l (sound_node l n t) (λ v i b. node-agrees n v i b ∙ each v i b)))
