-- `read_record` opens the record and reads its parts, or hands on why it was refused. Assumes nothing.
use Rattle.kit.proofs.{◌≡◌, Err, rules, arith}
use Rattle.om3.specs.Document.{Bytes}
use Rattle.reading.proofs.ReadingRecords as laws
use Rattle.reading.proofs.read_record.Goals as goal

pub returns-in_err-hours : goal.returns-in_err-hours
returns-in_err-hours c =
    let bytes : Bytes c.args.bytes.now = λ p h. omega (arith, c.type_inv.bytes p) in
    let same : c.from_residual.result ≡ Err c.in_err-hours.field-0.0 = search rules in
    rw same (laws.refused-read _ _ c.in_err-hours.ensures bytes _ _)

pub overflow_mul-at : goal.overflow_mul-at
overflow_mul-at c = omega (arith, laws.opened_length _ c.in_ok-hours.ensures, c.well_formed)

pub overflow_add-at : goal.overflow_add-at
overflow_add-at c = omega (arith, laws.opened_length _ c.in_ok-hours.ensures, c.well_formed)

pub slice_bounds-packed-end : goal.slice_bounds-packed-end
slice_bounds-packed-end c = omega (arith, laws.opened_length _ c.in_ok-hours.ensures)

pub slice_bounds-read_parts-count : goal.slice_bounds-read_parts-count
slice_bounds-read_parts-count c = omega (arith, laws.opened_length _ c.in_ok-hours.ensures)

pub slice_bounds-read_parts-start : goal.slice_bounds-read_parts-start
slice_bounds-read_parts-start c = omega (arith, laws.opened_length _ c.in_ok-hours.ensures)

pub read_parts-requires : goal.read_parts-requires
read_parts-requires c = laws.packed-table _ _ _ (laws.opened _ _ c.in_ok-hours.ensures)

pub returns : goal.returns
returns c =
    let bytes : Bytes c.args.bytes.now = λ p h. omega (arith, c.type_inv.bytes p) in
    laws.parts-read _ _ _ (laws.opened _ _ c.in_ok-hours.ensures) _ _ bytes c.read_parts.ensures
