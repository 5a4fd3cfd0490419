-- What the proofs of going down rest on, in reading order.
pub mod Stepping
pub mod Lending
pub mod Touching
