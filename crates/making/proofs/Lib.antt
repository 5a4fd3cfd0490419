-- What the proofs of making rest on, in reading order.
pub mod Filling
pub mod Readings
pub mod Puts
pub mod Details
pub mod Codes
pub mod Answers
pub mod Clauses
