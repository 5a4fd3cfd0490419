-- `change_of` subtracts the latest reading before the day, or the day's own first; all of them are small. Assumes
-- nothing.
use Rattle.kit.proofs.{ℤ, ap, Ok, Some}
use Rattle.days.proofs.Daily as laws
use Rattle.days.proofs.change_of.Goals as goal

pub returns-in-Some : goal.returns-in-Some
returns-in-Some c =
    let earlier = rw c.in-Some.is at c.requires.0 in
    rw c.in-Some.is (ap (λ (z : ℤ). Ok (Some z)) (laws.change-is _ _ c.requires.1.1 earlier.1))
