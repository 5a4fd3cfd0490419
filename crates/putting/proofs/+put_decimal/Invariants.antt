-- `put_decimal` prints the tenth of the number and then its last digit. The number falls with each call.
use Rattle.putting.proofs.+put_decimal.Given as goal

abbrev pub decreases-put_decimal : goal.decreases-put_decimal
decreases-put_decimal l = l.x
