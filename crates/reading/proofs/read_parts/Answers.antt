-- `read_parts` makes checks 3 and 4 in their order, each of which refuses with nothing written, and then unpacks the
-- coefficients and copies the codes of a sound table. Assumes nothing.
use Rattle.kit.proofs.{◌≡◌, Ok, Err, rules}
use Rattle.examining.proofs.Told.{RefusedBy}
use Rattle.reading.proofs.ReadingParts as laws
use Rattle.reading.proofs.read_parts.Goals as goal

pub returns-then-table_short : goal.returns-then-table_short
returns-then-table_short c = search laws.short-table

pub returns-in_err-map_err : goal.returns-in_err-map_err
returns-in_err-map_err c =
    let why = c.in_err-map_err.field-0.0 in
    let same : c.from_residual.result ≡ Err why = search rules in
    let told : RefusedBy c.examine.result why = search rules in
    rw same (search laws.unsound-refused)

pub returns : goal.returns
returns c = let passed : c.examine.result ≡ Ok tt = search rules in search laws.table-read
