-- What opening and asking answer, check by check.
pub mod Opened
pub mod Asked
pub mod Clauses
