-- `visit_table` examines node 0, which gives node 1 its range, and visits from node 1. Assumes nothing.
use Rattle.kit.proofs.{◌≡◌, Some, arith, pos, get_or}
use Rattle.std.proofs.Common.{rules}
use Rattle.laws.proofs.Levels.{P-most}
use Rattle.node.specs.Steps.{root_of}
use Rattle.examining.proofs.AtRoot.{root-read}
use Rattle.visiting.proofs.FromRoot as laws
use Rattle.visiting.proofs.visit_table.Goals as goal
use Rattle.visiting.proofs.visit_table.Goals.{In_ok-range}

-- What the root values give.
told : (c : In_ok-range)
    → (let cs = c.args.table.now.coefficients.now in
    root_of (get_or cs 0 (pos 0)) (get_or cs 1 (pos 0)) ≡ Some c.in_ok-range.range)
told c = let is = c.in_ok-range.ensures.ok_part in search root-read

pub bounds-table-1 : goal.bounds-table-1
bounds-table-1 c = c.requires.lent_to.root

pub returns-in_err-range : goal.returns-in_err-range
returns-in_err-range c = search (laws.root-unsound, root-read, rules)

pub visit-requires-clause-below : goal.visit-requires-clause-below
visit-requires-clause-below c =
    let there = told (goal.at.visit-requires-clause-below c).In_ok-range in
    rw c.requires.p_value (laws.top_below c.args.table.now.n _ _ c.args.x c.args.stop _ there c.requires.lent_to)

pub visit-requires-clause-hours_bound : goal.visit-requires-clause-hours_bound
visit-requires-clause-hours_bound c = omega (arith, P-most c.args.table.now.n, c.requires.p_value)

pub returns : goal.returns
returns c =
    let there = told (goal.at.returns c).In_ok-range in
    laws.top-visited _ _ _ _ _ _ there _ (rw c.requires.p_value at c.visit.ensures)
