-- What joining asks and promises.
pub mod Clauses
