-- Node 0 gives node 1 its range; then node 1 and all below it are examined. Assumes nothing.
use Rattle.kit.proofs.{◌≡◌, ◌≤◌, arith, rules, get_or, pos, Some}
use Rattle.laws.proofs.Levels.{2≤P, P-even}
use Rattle.node.specs.Steps.{root_of}
use Rattle.examining.proofs.AtRoot.{root-told, root-unsound, root-examined}
use Rattle.examining.proofs.examine_in.Given as given
use Rattle.examining.proofs.examine_in.Goals as goal
use Rattle.examining.proofs.examine_in.Goals.{In_ok-range}

pub at-requires-2 : goal.at-requires-2
at-requires-2 g c = omega (arith, 2≤P c.args.n)

pub returns-in_err-range : goal.returns-in_err-range
returns-in_err-range g c = search (root-unsound, root-told, rules)

-- The range that the root values give.
read : (g : given.Over) (c : In_ok-range g)
    → (let cs = g.C.Coefficients.listed c.args.coefficients in
    root_of (get_or cs 0 (pos 0)) (get_or cs 1 (pos 0)) ≡ Some c.in_ok-range.range)
read g c = let is = c.in_ok-range.ensures.ok_part in search root-told

pub examine_pair-requires : goal.examine_pair-requires
examine_pair-requires g c = omega (arith, 2≤P c.args.n)

pub returns-then-p-lt4 : goal.returns-then-p-lt4
returns-then-p-lt4 g c =
    let a = c.args in
    let cs = g.C.Coefficients.listed a.coefficients in
    let two : 2 ≤ a.p = omega (arith, 2≤P a.n) in
    root-examined a.n cs a.codes.now _ (read g (goal.at.returns-then-p-lt4 g c).In_ok-range) a.p c.requires.p_value _
    (c.examine_pair.ensures.pair cs a.p two c.if-p-lt4.true)

pub returns-then-p-lt8 : goal.returns-then-p-lt8
returns-then-p-lt8 g c =
    let a = c.args in
    let cs = g.C.Coefficients.listed a.coefficients in
    root-examined a.n cs a.codes.now _ (read g (goal.at.returns-then-p-lt8 g c).In_ok-range) a.p c.requires.p_value _
    (c.examine_four.ensures.four a.p c.if-p-lt4.false c.if-p-lt8.true)

pub examine_below-requires-clause-hours_bound : goal.examine_below-requires-clause-hours_bound
examine_below-requires-clause-hours_bound g c = omega (arith, P-even c.args.n)

pub returns : goal.returns
returns g c =
    let a = c.args in
    let cs = g.C.Coefficients.listed a.coefficients in
    root-examined a.n cs a.codes.now _ (read g (goal.at.returns g c).In_ok-range) a.p c.requires.p_value _
    c.examine_below.ensures
