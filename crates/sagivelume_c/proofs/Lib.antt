-- What the functions that C links ask and promise.
pub mod Clauses
