-- Choices among signed numbers that definitions of the crates above are written with.
pub mod Choice
-- Passed on by their names alone.
pub use Choice.{eq_z, is_number}
