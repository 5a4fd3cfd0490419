-- The definitions answer as document 02's requests say, by computing them. Assumes nothing.
use Rattle.kit.proofs.{refl}
use Rattle.om3.specs.Document.{Answered, old_logs, day_changes}
unfoldable use Rattle.om3.proofs.Numbers.{computing}

pub old-logs-hold : Answered old_logs
unfolding computing
old-logs-hold = refl

pub day-changes-hold : Answered day_changes
unfolding computing
day-changes-hold = refl
