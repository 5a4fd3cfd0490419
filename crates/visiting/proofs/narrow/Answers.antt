-- What the code asks of the node it has come to, and how a visit goes on from there. Assumes nothing.
use Rattle.kit.proofs.{◌∙◌, ap, Err}
use Rattle.visiting.proofs.Handed.{handed-on, none-told, error-told}
use Rattle.visiting.proofs.Narrowing as laws
use Rattle.visiting.proofs.narrow.Goals as goal
use Rattle.visiting.proofs.narrow.Goals.{After-right_half-second}

pub is_opened-requires : goal.is_opened-requires
is_opened-requires c = laws.ends-early _ _ _ _ _ _ c.loop-x.invariant

pub step-halves-requires : goal.step-halves-requires
step-halves-requires c =
    laws.steps-there _ _ _ _ _ _ c.loop-x.invariant c.is_opened.ensures c.loop-x-test.true c.requires.le_stop
    c.is_pair-pair.ensures

pub returns-in_err-left : goal.returns-in_err-left
returns-in_err-left c =
    let gone = c.in_err-left.ensures.value in
    let same = handed-on c.from_residual.result _ c.from_residual.ensures.1 ∙ ap (λ i. Err i) (error-told _ _ _ gone) in
    let none = none-told c.step-halves.result _ _ gone in
    rw same
    (laws.unsound _ _ _ _ _ _ c.loop-x.invariant c.is_opened.ensures c.loop-x-test.true c.requires.le_stop
    c.is_pair-pair.ensures c.step-halves.ensures none)

pub right_half-second-requires-clause-hours_bound : goal.right_half-second-requires-clause-hours_bound
right_half-second-requires-clause-hours_bound c = laws.ends-early _ _ _ _ _ _ c.loop-x.invariant

pub touches-requires : goal.touches-requires
touches-requires c = laws.right-early _ _ _ _ _ _ c.loop-x.invariant c.right_half-second.ensures

-- It is opened and sound, and these are its halves.
halved : (c : After-right_half-second)
    → laws.Halved c.args.table.now.n c.args.table.now.coefficients.now c.args.table.now.codes.now c.args.x c.args.stop
    c.args.before c.args.start
    c.loop-x.at c.loop-x.opened c.left_half-first.result c.right_half-second.result
halved c =
    laws.halved _ _ _ _ _ _ c.loop-x.invariant c.is_opened.ensures c.loop-x-test.true c.requires.le_stop
    c.is_pair-pair.ensures c.step-halves.ensures c.in_ok-left.ensures.ok_part c.left_half-first.ensures
    c.right_half-second.ensures

pub returns-then-touches-2 : goal.returns-then-touches-2
returns-then-touches-2 c =
    laws.splits
    (halved (goal.at.returns-then-touches-2 c).After-right_half-second)

pub loop-x-preserved-then-touches : goal.loop-x-preserved-then-touches
loop-x-preserved-then-touches c =
    laws.goes-right
    (halved (goal.at.loop-x-preserved-then-touches c).After-right_half-second)
    c.touches-then-touches.ensures c.if-touches-2.false

pub loop-x-preserved : goal.loop-x-preserved
loop-x-preserved c =
    laws.goes_left
    (halved (goal.at.loop-x-preserved c).After-right_half-second)
    c.touches.ensures c.if-touches.false
