use Rattle.putting.proofs.Putting.{copy-puts}
use Rattle.putting.proofs.put_bytes.Goals as goal

pub returns : goal.returns
returns c = search copy-puts
