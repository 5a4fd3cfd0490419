-- What the proofs of the windows rest on.
pub mod Windows
pub mod Clauses
