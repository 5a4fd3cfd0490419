-- What the proofs of the visit rest on, in reading order.
pub mod Handed
pub mod Visiting
pub mod Narrowing
pub mod FromRoot
