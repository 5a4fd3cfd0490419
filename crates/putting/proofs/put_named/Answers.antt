-- The name is printed and then the number, which has at most twenty digits.
use Rattle.putting.proofs.Numbers.{named-room, named-puts}
use Rattle.putting.proofs.put_named.Goals as goal

pub put_decimal-requires : goal.put_decimal-requires
put_decimal-requires c = search named-room

pub returns : goal.returns
returns c = search named-puts
