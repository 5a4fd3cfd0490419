-- The least power of two that is at least n and at least 2. Assumes nothing.
use Rattle.sizes.proofs.Powers.{next-power}
use Rattle.sizes.proofs.places.Goals as goal

pub returns : goal.returns
returns c =
    let power = rw c.max.ensures at c.next_power_of_two.ensures in
    next-power c.args.n c.requires _ power.power power.lower_bound power.upper_bound
