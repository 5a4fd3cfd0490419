-- `put_record` puts the header, the coefficients after it, and the codes after those. Assumes nothing.
use Rattle.kit.proofs.{arith}
use Rattle.laws.proofs.Levels.{P-most}
use Rattle.writing.proofs.Put.{record-put}
use Rattle.writing.proofs.put_record.Goals as goal

pub record_size-size-requires : goal.record_size-size-requires
record_size-size-requires c = omega (arith, c.requires.coefficients, P-most c.args.n)

pub returns : goal.returns
returns c =
    record-put _ _ _ _ c.requires _ c.record_size-size.ensures _ c.put_header.ensures _ c.pack.ensures _
    c.copy_from_slice.ensures.after
