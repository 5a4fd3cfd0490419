-- `found` walks to the first reading and, if it came there, to the last. Assumes nothing.
use Rattle.kit.proofs.{◌≡◌, ◌+◌, ◌*◌, ◌≤◌, Ok, arith}
use Rattle.signed.proofs.{reads-back}
use Rattle.words.specs.{largest_hours}
use Rattle.stepping.proofs.Lending.{ends-within}
use Rattle.visiting.proofs.Handed.{handed-on}
use Rattle.columns.proofs.Finishing.{refused-by, left-by}
use Rattle.columns.proofs.Founding as laws
use Rattle.columns.proofs.found.Goals as goal
use Rattle.columns.proofs.found.Goals.{In_ok-latest}

-- Each walk came to its reading, down fewer levels than there are hours.
first : (c : In_ok-latest) → c.walk-walk.result ≡ Ok c.in_ok-earliest.earliest
first c = left-by c.walk-walk.result _ c.in_ok-earliest.ensures.cases

last : (c : In_ok-latest) → c.walk-walk-2.result ≡ Ok c.in_ok-latest.latest
last c = left-by c.walk-walk-2.result _ c.in_ok-latest.ensures.cases

few : (c : In_ok-latest)
    → c.args.count + c.in_ok-earliest.earliest.levels + c.in_ok-latest.latest.levels ≤ 4 * largest_hours
few c =
    omega (
      arith,
      c.walk-walk.ensures.few _ _ (first c),
      c.walk-walk-2.ensures.few _ _ (last c),
      ends-within c.requires.below.0,
      ends-within c.requires.below.1,
      c.requires.count_bound,
    )

pub overflow_add-result : goal.overflow_add-result
overflow_add-result c = omega (arith, few (goal.at.overflow_add-result c).In_ok-latest)

pub overflow_add-result-2 : goal.overflow_add-result-2
overflow_add-result-2 c = omega (arith, few (goal.at.overflow_add-result-2 c).In_ok-latest)

pub returns-in_err-earliest : goal.returns-in_err-earliest
returns-in_err-earliest c =
    let same = handed-on c.from_residual.result _ c.from_residual.ensures.1 in
    let told = refused-by c.walk-walk.result _ c.in_err-earliest.ensures.cases in
    rw same (search (laws.first-unsound, c.walk-walk.ensures))

pub returns-in_err-latest : goal.returns-in_err-latest
returns-in_err-latest c =
    let came = left-by c.walk-walk.result _ c.in_ok-earliest.ensures.cases in
    let one = rw came at c.walk-walk.ensures in
    let same = handed-on c.from_residual-in_err-latest.result _ c.from_residual-in_err-latest.ensures.1 in
    let told = refused-by c.walk-walk-2.result _ c.in_err-latest.ensures.cases in
    rw same (laws.last-unsound _ _ _ _ _ _ _ _ _ one _ c.walk-walk-2.ensures _ told)

pub returns : goal.returns
returns c =
    let l = c.low_of in
    let h = c.high_of in
    let one = rw (first (goal.at.returns c).In_ok-latest) at c.walk-walk.ensures in
    let two = rw (last (goal.at.returns c).In_ok-latest) at c.walk-walk-2.ensures in
    rw (reads-back l.result l.type_inv, reads-back h.result h.type_inv, l.ensures, h.ensures) (search laws.both-came)
