-- `stopped_over` visits the table and counts what was opened. Assumes nothing.
use Rattle.kit.proofs.{◌≡◌, Ok, arith}
use Rattle.std.proofs.Common.{rules}
use Rattle.std.proofs.lemmas.Grind.{common_steps}
use Rattle.laws.proofs.Levels.{P-most}
use Rattle.columns.proofs.Stopping as laws
use Rattle.columns.proofs.stopped_over.Goals as goal

pub returns-then-x : goal.returns-then-x
returns-then-x c = laws.stopped_none _ _ _ _ _ c.if-x.true

pub count_of-requires : goal.count_of-requires
count_of-requires c =
    let through : c.visit_table-visit.result ≡ Ok c.in_ok-seen.seen = search rules in
    omega (arith, c.visit_table-visit.ensures.few _ through, P-most c.args.table.now.n)

pub returns : goal.returns
returns c =
    let through : c.visit_table-visit.result ≡ Ok c.in_ok-seen.seen = grind (arith, common_steps) in
    rw (c.inner_range.ensures, c.count_of.ensures)
    (laws.stopped-seen _ _ _ _ _ c.if-x.false _ (rw through at c.visit_table-visit.ensures))
