-- `finished_over` visits the table, and walks from the first and the last inner node if there are some. Assumes
-- nothing.
use Rattle.kit.proofs.{◌≡◌, refl, Err, Ok, arith}
use Rattle.std.proofs.Common.{rules}
use Rattle.laws.proofs.Levels.{P-most}
use Rattle.sizes.proofs.Lent.{is-lent}
use Rattle.stepping.proofs.Lending.{whole-lent}
use Rattle.visiting.specs.Visiting.{TableVisited}
use Rattle.columns.proofs.Finishing as laws
use Rattle.columns.proofs.finished_over.Goals as goal
use Rattle.columns.proofs.finished_over.Goals.{In_ok-seen}

pub returns-then-x : goal.returns-then-x
returns-then-x c = laws.finished-none _ _ _ _ c.if-x.true

pub visit_table-visit-requires-clause-lent_to : goal.visit_table-visit-requires-clause-lent_to
visit_table-visit-requires-clause-lent_to c = whole-lent _ _ _ (is-lent c.args.whole.now) _

pub returns-in_err-seen : goal.returns-in_err-seen
returns-in_err-seen c =
    let same : c.from_residual.result ≡ Err c.in_err-seen.field-0.0 = search rules in
    rw same (laws.finished-unsound _ _ _ _ c.if-x.false _ c.visit_table-visit.ensures _ (search rules))

-- The visit is through.
through : (c : In_ok-seen)
    → (let t = c.args.whole.now.table in
    TableVisited t.n t.coefficients.now t.codes.now c.args.x 1 (Ok c.in_ok-seen.seen))
through c =
    let same : c.visit_table-visit.result ≡ Ok c.in_ok-seen.seen = search rules in
    rw same at c.visit_table-visit.ensures

pub count_of-count-requires : goal.count_of-count-requires
count_of-count-requires c =
    let few = (through (goal.at.count_of-count-requires c).In_ok-seen).few _ refl in
    omega (arith, few, P-most c.args.whole.now.table.n)

pub found-requires-clause-count_bound : goal.found-requires-clause-count_bound
found-requires-clause-count_bound c =
    let few = (through (goal.at.found-requires-clause-count_bound c).In_ok-seen).few _ refl in
    omega (arith, few, P-most c.args.whole.now.table.n, c.count_of-count.ensures)

pub returns-in_default : goal.returns-in_default
returns-in_default c =
    let t = through (goal.at.returns-in_default c).In_ok-seen in
    rw c.count_of-count.ensures (laws.finished-nothing _ _ _ _ c.if-x.false _ t c.in_default.is)

pub found-requires-clause-below : goal.found-requires-clause-below
found-requires-clause-below c =
    let t = through (goal.at.found-requires-clause-below c).In_ok-seen in
    laws.nodes-below _ _ _ _ c.if-x.false _ t _ _ _ c.in-Some.is

pub returns : goal.returns
returns c =
    let t = through (goal.at.returns c).In_ok-seen in
    laws.finished-nodes _ _ _ _ c.if-x.false _ t _ _ _ c.in-Some.is _ (rw c.count_of-count.ensures at c.found.ensures)
