-- Each struct says what document 01 says of the answer that it tells: each case by computing it. Assumes nothing.
use Rattle.kit.proofs.{arith}
use Rattle.told.specs.Says.{EachSays}

pub each-says : EachSays
each-says =
    record {
      taking = λ t. grind arith;
      writing = λ w. grind arith;
      unpacking = λ u. grind arith;
      opening = λ o. grind arith;
      asking = λ a. grind arith;
      edges = λ e. grind arith;
      stopped = λ s. grind arith;
      answer = λ a. grind arith;
      finished = λ f. grind arith;
      change = λ c. grind arith;
    }
