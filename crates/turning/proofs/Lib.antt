-- What the proofs of turning back rest on, in reading order.
pub mod Writing
pub mod AllWritten
pub mod TurningBack
pub mod Clauses
