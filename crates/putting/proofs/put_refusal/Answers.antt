-- The refusal's number, its place and a line feed are printed one after the other, each with its name before it.
use Rattle.putting.proofs.Numbers.{refusal-puts}
use Rattle.putting.proofs.put_refusal.Goals as goal

pub returns : goal.returns
returns c = search refusal-puts
