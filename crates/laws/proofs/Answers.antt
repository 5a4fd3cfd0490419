-- Laws of the smaller definitions: one level's stretch, joining, the day. Assumes nothing.
use Rattle.kit.proofs.{◌≡◌, refl, Bool, true, false, cond, not, ◌||◌, ℕ, suc, ◌+◌, ◌*◌, ◌^◌, ◌≤◌, ◌<◌, two-pow-succ}
use Rattle.kit.proofs.{None, Option, Some, arith, leb, pow_mono, leb-true, ltb-false, not-true}
use Rattle.words.specs.declared.Summary.{Summary}
use Rattle.words.specs.{day_hours, declared.Stretch.Stretch}
use Rattle.om3.specs.Document.{bad_hours, levels, P, short, has_level, level_stretch, joined, day}
use Rattle.laws.proofs.Tests.{and_left, and_right, neither}

-- A level's stretch lies within what is lent. [level 1]
pub stretch-within : (n j lent : ℕ) → (level_stretch n j lent).start + (level_stretch n j lent).length ≤ lent
unfolding level_stretch
stretch-within n j lent = by (has_level n j lent) refl
  where
    at : Bool → Stretch
    at b = cond b (record { start = 2 * 2 ^ j; length = 2 * 2 ^ j }) (record { start = 0; length = 0 })

    by : (b : Bool) → has_level n j lent ≡ b → (at b).start + (at b).length ≤ lent
    by false e = omega arith
    by true e =
        let bad = bad_hours n || short lent (P n) in
        let deep = leb (j + 2) (levels n) in
        let room = (neither (bad_hours n) (short lent (P n)) (not-true bad (and_left (not bad) deep e))).1 in
        let below : suc (suc j) ≤ levels n = omega (arith, leb-true (j + 2) (levels n) (and_right (not bad) deep e)) in
        omega (arith, ltb-false lent (P n) room, pow_mono below, two-pow-succ j, two-pow-succ (suc j))

-- "No reading" changes nothing on the right; on the left that is its definition. [columns 19]
pub joined-right : (a : Option Summary) → joined a None ≡ a
joined-right None = refl
joined-right (Some s) = refl

-- A day that is not refused has an hour, and ends by hour n. [columns 21]
pub day-hours : (n d : ℕ) → day_hours * d < n → ((day n d).from.0 < (day n d).upto.0) × ((day n d).upto.0 ≤ n)
day-hours n d h = (omega arith, omega arith)
