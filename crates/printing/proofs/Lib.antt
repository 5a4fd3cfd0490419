-- Why printing meets its contracts.
pub mod Lines
pub mod ColumnLines
pub mod Deciding
pub mod Header
pub mod Longer
pub mod Held
pub mod InPieces
pub mod Whole
pub mod DrawnWhole
pub mod Clauses
