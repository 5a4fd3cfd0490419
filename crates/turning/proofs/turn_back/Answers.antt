-- The checks in their order, each of which refuses with nothing written; then the hours of a sound table, written into
-- the first n places lent. Assumes nothing.
use Rattle.kit.proofs.{◌≡◌, ◌<◌, arith, pos, length, get_or, Err, None, Ok, Some, ◌≤◌, ◌*◌}
use Rattle.om3.specs.Document.{P}
use Rattle.std.proofs.Common.{rules}
use Rattle.laws.proofs.Levels.{2≤P}
use Rattle.sizes.proofs.Lent.{lent-there}
use Rattle.sizes.proofs.TableChecks as checked
use Rattle.node.specs.Steps.{root_of}
use Rattle.examining.proofs.AtRoot.{root-hours, root-read}
use Rattle.examining.proofs.Told.{RefusedBy, examined-lent}
use Rattle.turning.proofs.TurningBack as laws
use Rattle.turning.proofs.turn_back.Goals as goal

pub returns-in_err-whole : goal.returns-in_err-whole
returns-in_err-whole c =
    let a = c.args in
    let why = c.in_err-whole.field-0.0 in
    let same : c.from_residual.result ≡ Err why = search rules in
    rw same
    (laws.refused _ _ _ _
    (checked.lent-refused a.n a.coefficients.now a.codes.now (length a.hours.now) a.n why c.in_err-whole.ensures))

pub returns-then-hours-n : goal.returns-then-hours-n
returns-then-hours-n c =
    let a = c.args in
    laws.refused _ _ _ _
    (checked.buffer-short a.n a.coefficients.now a.codes.now (length a.hours.now) a.n
    (lent-there c.in_ok-whole.ensures) c.if-hours-n.true)

pub returns-in_err-map_err : goal.returns-in_err-map_err
returns-in_err-map_err c =
    let a = c.args in
    let fits = laws.enough c.in_ok-whole.ensures c.if-hours-n.false in
    let why = c.in_err-map_err.field-0.0 in
    let same : c.from_residual-in_err-map_err.result ≡ Err why = search rules in
    let told : RefusedBy c.examine.result why = search rules in
    rw same
    (laws.unsound-refused _ _ _ _ fits _ (examined-lent c.in_ok-whole.ensures c.examine.ensures) why told)

pub bounds-coefficients-1 : goal.bounds-coefficients-1
bounds-coefficients-1 c =
    let lent = lent-there c.in_ok-whole.ensures in
    let z : 1 < length c.args.coefficients.now = omega (arith, 2≤P c.args.n, lent.coefficients) in
    z

pub write_below-requires-clause-le_hours : goal.write_below-requires-clause-le_hours
write_below-requires-clause-le_hours c = omega (arith, c.in_ok-whole.whole.places, 2≤P c.in_ok-whole.whole.table.n)

pub write_below-requires-clause-hours_bound : goal.write_below-requires-clause-hours_bound
write_below-requires-clause-hours_bound c =
    let t = c.in_ok-whole.whole in
    let room : t.p ≤ 2 * length t.table.codes.now =
    omega (arith, root-hours t.table.n t.table.codes.now t.p t.places (rw t.places t.codes_lent)) in
    let lent = rw c.in_ok-whole.ensures.codes at room in
    omega arith

pub returns-in-Some : goal.returns-in-Some
returns-in-Some c =
    let a = c.args in
    let fits = laws.enough c.in_ok-whole.ensures c.if-hours-n.false in
    let cs = a.coefficients.now in
    let told : root_of (get_or cs 0 (pos 0)) (get_or cs 1 (pos 0)) ≡ Some c.in-Some.range = search root-read in
    let passed : c.examine.result ≡ Ok tt = search rules in
    let places : c.in_ok-whole.whole.p ≡ P a.n = rw c.in_ok-whole.ensures.hours at c.in_ok-whole.whole.places in
    laws.hours-written _ _ _ _ fits _ (examined-lent c.in_ok-whole.ensures c.examine.ensures) passed _ told _
    places _ c.write_below.ensures

pub returns-in_default : goal.returns-in_default
returns-in_default c =
    let a = c.args in
    let fits = laws.enough c.in_ok-whole.ensures c.if-hours-n.false in
    let cs = a.coefficients.now in
    let told : root_of (get_or cs 0 (pos 0)) (get_or cs 1 (pos 0)) ≡ None = search root-read in
    let passed : c.examine.result ≡ Ok tt = search rules in
    absurd
    (laws.root-not-unsound _ _ _ a.hours.now fits _ (examined-lent c.in_ok-whole.ensures c.examine.ensures) passed
    told)
