-- `number_from` keeps the number that the bytes read so far spell. Assumes nothing.
use Rattle.packing.proofs.Spelled.{Read}
use Rattle.packing.proofs.number_from.Given as goal

abbrev pub invariant-loop-byte : goal.invariant-loop-byte
invariant-loop-byte l = Read l.bytes l.byte-index l.x
