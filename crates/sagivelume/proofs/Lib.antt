-- What the calls of the boundary ask and promise.
pub mod Clauses
