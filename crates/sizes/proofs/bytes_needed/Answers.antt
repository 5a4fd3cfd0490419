-- P is at most the largest number of hours. Assumes nothing.
use Rattle.laws.proofs.Levels.{P-most}
use Rattle.sizes.proofs.bytes_needed.Goals as goal

pub record_size-requires : goal.record_size-requires
record_size-requires c = rw c.places.ensures (P-most _)
