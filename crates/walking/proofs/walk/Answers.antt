-- What the code asks of the node it has come to, and how the walk goes on from there or ends. Assumes nothing.
use Rattle.kit.proofs.{◌≡◌, Err, None, arith}
use Rattle.std.proofs.Common.{rules}
use Rattle.walking.proofs.Walking as laws
use Rattle.walking.proofs.walk.Goals as goal

pub step-halves-requires : goal.step-halves-requires
step-halves-requires c = laws.steps-there _ _ _ _ c.loop-at.invariant (omega arith) c.is_pair-pair.ensures

pub returns-in_err-left : goal.returns-in_err-left
returns-in_err-left c =
    let same : c.from_residual.result ≡ Err c.loop-at.at.id = search rules in
    let none : c.step-halves.result ≡ None = search rules in
    rw same
    (laws.unsound _ _ _ _ c.loop-at.invariant (omega arith) c.is_pair-pair.ensures c.step-halves.ensures none)

pub loop-at-preserved-then-takes_left : goal.loop-at-preserved-then-takes_left
loop-at-preserved-then-takes_left c =
    laws.came-left _ _ _ _ c.loop-at.invariant (omega arith) c.is_pair-pair.ensures c.step-halves.ensures
    c.in_ok-left.ensures.ok_part c.takes_left.ensures c.if-takes_left.true c.left_half-at.ensures

pub right_half-at-requires-clause-hours_bound : goal.right_half-at-requires-clause-hours_bound
right_half-at-requires-clause-hours_bound c = laws.ends-early _ _ _ _ c.loop-at.invariant (omega arith)

pub loop-at-preserved : goal.loop-at-preserved
loop-at-preserved c =
    laws.came-right _ _ _ _ c.loop-at.invariant (omega arith) c.is_pair-pair.ensures c.step-halves.ensures
    c.in_ok-left.ensures.ok_part c.takes_left.ensures c.if-takes_left.false c.right_half-at.ensures

pub returns : goal.returns
returns c = search laws.hour-read
