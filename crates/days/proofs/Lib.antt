-- What the proofs of the days rest on, in reading order.
pub mod Daily
pub mod Changing
pub mod Clauses
