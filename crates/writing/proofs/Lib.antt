-- The parts of a record put one after the other, and each answer of writing.
pub mod Put
pub mod Written
pub mod Clauses
