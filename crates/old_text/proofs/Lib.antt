-- Why deciding about an old log's text and printing it meet their contracts, and that this is what is defined.
pub mod LongerLogs
pub mod HourLines
pub mod Deciding
pub mod InPieces
pub mod Said
pub mod Whole
pub mod Clauses
