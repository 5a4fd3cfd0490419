-- `finished` makes the checks in their order, and then finishes the column. Assumes nothing.
use Rattle.std.proofs.Common.{rules}
use Rattle.columns.proofs.Calls as laws
use Rattle.columns.proofs.finished.Goals as goal

pub returns-in_err-whole : goal.returns-in_err-whole
returns-in_err-whole c = search (laws.finished-lent, c.in_err-whole.ensures, rules)

pub returns-in_err-x : goal.returns-in_err-x
returns-in_err-x c = search (laws.finished-window, c.in_ok-whole.ensures.checks, c.in_err-x.ensures, rules)

pub returns : goal.returns
returns c =
    let t = c.in_ok-whole.ensures in
    let done = rw (t.hours, t.coefficients, t.codes) at c.finished_over.ensures in
    search (laws.finished-column, t.checks, c.in_ok-x.ensures, done)
