use Rattle.putting.proofs.Digits as laws
use Rattle.putting.proofs.+put_decimal.Goals as goal

pub put_byte-requires : goal.put_byte-requires
put_byte-requires t c = search laws.one-room

pub returns-then-x-lt10 : goal.returns-then-x-lt10
returns-then-x-lt10 t c = search laws.one-puts

pub put_decimal-next-requires : goal.put_decimal-next-requires
put_decimal-next-requires t c = (search laws.tenth-less, search laws.tenth-room)

pub put_byte-requires-2 : goal.put_byte-requires-2
put_byte-requires-2 t c = search laws.last-room

pub returns : goal.returns
returns t c = search laws.more-puts
