-- `write_record` makes the checks in their order, each of which refuses with nothing written, and then puts the record
-- of a sound table. Assumes nothing.
use Rattle.kit.proofs.{◌≡◌, Ok, Err, rules}
use Rattle.sizes.proofs.TableChecks.{places-most}
use Rattle.examining.proofs.Told.{RefusedBy}
use Rattle.writing.proofs.Written as laws
use Rattle.writing.proofs.write_record.Goals as goal

pub returns-in_err-whole : goal.returns-in_err-whole
returns-in_err-whole c =
    let same : c.from_residual.result ≡ Err c.in_err-whole.field-0.0 = search rules in
    rw same (laws.lent-refused _ c.args.coefficients c.args.codes _ _ c.in_err-whole.ensures)

pub record_size-size-requires : goal.record_size-size-requires
record_size-size-requires c = places-most _ c.in_ok-whole.whole.places

pub returns-then-bytes-size : goal.returns-then-bytes-size
returns-then-bytes-size c =
    laws.short-buffer _ _ _ _ _ c.in_ok-whole.ensures _ c.record_size-size.ensures c.if-bytes-size.true

pub returns-in_err-map_err : goal.returns-in_err-map_err
returns-in_err-map_err c =
    let why = c.in_err-map_err.field-0.0 in
    let same : c.from_residual-in_err-map_err.result ≡ Err why = search rules in
    let told : RefusedBy c.examine.result why = search rules in
    rw same
    (laws.unsound-refused _ _ _ _ _ c.in_ok-whole.ensures _ c.record_size-size.ensures c.if-bytes-size.false _
    c.examine.ensures _ told)

pub put_record-requires : goal.put_record-requires
put_record-requires c =
    let passed : c.examine.result ≡ Ok tt = search rules in
    laws.ready _ _ _ _ _ c.in_ok-whole.ensures _ c.record_size-size.ensures c.if-bytes-size.false _ c.examine.ensures
    passed

pub returns : goal.returns
returns c =
    let passed : c.examine.result ≡ Ok tt = search rules in
    laws.record-written _ _ _ _ _ c.in_ok-whole.ensures _ c.record_size-size.ensures c.if-bytes-size.false _
    c.examine.ensures passed _ c.put_record.ensures
