-- `visit` narrows, and then answers what the node adds that narrowing came to, or calls itself on the two halves
-- that it came to, the left one first. Assumes nothing.
use Rattle.kit.proofs.{ℕ, arith}
use Rattle.visiting.proofs.Handed.{handed-on}
use Rattle.stepping.proofs.Lending.{some-hours, ends-within}
use Rattle.visiting.specs.Narrowing.{EndsAt, SplitsAt}
use Rattle.visiting.proofs.Visiting as laws
use Rattle.visiting.proofs.+visit.Goals as goal
use Rattle.visiting.proofs.+visit.Goals.{In-Ended, In-Split}

-- Where narrowing has come to.
ended : (t : ℕ) (c : In-Ended t)
    → (let t = c.args.table.now in
    EndsAt t.n t.coefficients.now t.codes.now c.args.x c.args.stop c.args.before c.args.start
    c.in-Ended.at c.in-Ended.opened)
ended t c = rw c.in-Ended.is at c.in_ok-at.ensures

split : (t : ℕ) (c : In-Split t)
    → (let t = c.args.table.now in
    SplitsAt t.n t.coefficients.now t.codes.now c.args.x c.args.stop c.args.before c.args.start
    c.in-Split.first c.in-Split.second c.in-Split.opened)
split t c = rw c.in-Split.is at c.in_ok-at.ensures

pub unopened-requires : goal.unopened-requires
unopened-requires t c = omega (arith, ends-within (ended t c).lent)

pub visit-requires : goal.visit-requires
visit-requires t c =
    let s = split t c in (
      omega (arith, s.less-first, c.decreases),
      (s.before, (omega (arith, s.room, some-hours s.after), c.requires.le_stop)),
    )

pub returns-in-Ended : goal.returns-in-Ended
returns-in-Ended t c =
    let e = ended t (goal.at.returns-in-Ended t c).In-Ended in
    rw c.unopened.ensures (e.rest _ (laws.unopened-visited _ _ _ _ _ _ _ e.closed e.lent))

pub returns-in_err-a-in-Split : goal.returns-in_err-a-in-Split
returns-in_err-a-in-Split t c =
    let s = split t (goal.at.returns-in_err-a-in-Split t c).In-Split in
    let same = handed-on c.from_residual-in_err-a-in-Split.result _ c.from_residual-in_err-a-in-Split.ensures.1 in
    rw same (s.left-unsound _ c.in_err-a-in-Split.ensures)

pub returns-in_err-b-in-Split : goal.returns-in_err-b-in-Split
returns-in_err-b-in-Split t c =
    let s = split t (goal.at.returns-in_err-b-in-Split t c).In-Split in
    let same = handed-on c.from_residual-in_err-b-in-Split.result _ c.from_residual-in_err-b-in-Split.ensures.1 in
    rw same (s.right-unsound _ c.in_ok-a-in-Split.ensures _ c.in_err-b-in-Split.ensures)

pub returns-in_ok-b-in-Split : goal.returns-in_ok-b-in-Split
returns-in_ok-b-in-Split t c =
    let s = split t (goal.at.returns-in_ok-b-in-Split t c).In-Split in
    rw c.both_seen.ensures (s.both-seen _ c.in_ok-a-in-Split.ensures _ c.in_ok-b-in-Split.ensures)
