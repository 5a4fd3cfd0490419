-- Linear reasoning over signed numbers by `omega signed`, in reading order.
pub mod Parts
pub mod Sums
pub mod Widths
pub mod Choices
pub mod Rules
pub mod Wider
-- Passed on by their names alone.
pub use Parts.{up, dn, clash}
pub use Sums.{add_parts, sub_parts}
pub use Widths.{reads-back, told, nat_abs-parts}
pub use Choices.{min-parts, max-parts, is_number-true, is_number-bits, eq_z-true, true-eq_z, bits-eq_z, bits-not-eq_z}
pub use Rules.{signed}
