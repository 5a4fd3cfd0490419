-- A minus is printed where the number is below zero, and then its size.
use Rattle.putting.proofs.Numbers as laws
use Rattle.putting.proofs.put_grams.Goals as goal

pub put_decimal-requires : goal.put_decimal-requires
put_decimal-requires c = search laws.below-room

pub returns-then-x-lt0 : goal.returns-then-x-lt0
returns-then-x-lt0 c = search laws.below-puts

pub put_decimal-requires-2 : goal.put_decimal-requires-2
put_decimal-requires-2 c = search laws.plain-room

pub returns : goal.returns
returns c = search laws.plain-puts
