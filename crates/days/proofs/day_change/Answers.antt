-- `day_change` makes the checks in their order, finishes the column of the day's hours, and hands its answer on.
-- Assumes nothing.
use Rattle.kit.proofs.{◌*◌, ◌≤◌, ◌<◌, arith}
use Rattle.std.proofs.Common.{rules}
use Rattle.words.specs.{day_hours}
use Rattle.visiting.proofs.Handed.{handed-on}
use Rattle.days.proofs.Changing as laws
use Rattle.days.proofs.day_change.Goals as goal

pub returns-in_err-whole : goal.returns-in_err-whole
returns-in_err-whole c = search (laws.day-lent, c.in_err-whole.ensures, rules)

pub returns-then-div_ceil-d : goal.returns-then-div_ceil-d
returns-then-div_ceil-d c =
    let late : c.args.n ≤ day_hours * c.args.d = omega (arith, c.div_ceil.ensures) in
    laws.day-late _ _ _ _ c.in_ok-whole.ensures.checks late

pub returns-in_err-own : goal.returns-in_err-own
returns-in_err-own c =
    let there : day_hours * c.args.d < c.args.n = omega (arith, c.div_ceil.ensures) in
    let same = handed-on c.from_residual-in_err-own.result _ c.from_residual-in_err-own.ensures.1 in
    let t = c.in_ok-whole.ensures in
    let refused = rw (t.hours, t.coefficients, t.codes) at c.in_err-own.ensures in
    rw same (laws.day-refused _ _ _ _ t.checks there _ c.hours_of.ensures _ refused)

pub returns : goal.returns
returns c =
    let there : day_hours * c.args.d < c.args.n = omega (arith, c.div_ceil.ensures) in
    let t = c.in_ok-whole.ensures in
    let told = rw (t.hours, t.coefficients, t.codes) at c.in_ok-own.ensures in
    let given = rw (t.hours, t.coefficients, t.codes) at c.change_given.ensures in
    laws.day-answered _ _ _ _ t.checks there _ c.hours_of.ensures _ _ told _ given
