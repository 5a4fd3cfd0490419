-- `put_header` puts one field after the other. Assumes nothing.
use Rattle.writing.proofs.Put.{header-put}
use Rattle.writing.proofs.put_header.Goals as goal

pub returns : goal.returns
returns c = header-put _ _ _ c.requires _ c.put_number.ensures _ c.put_number-2.ensures
