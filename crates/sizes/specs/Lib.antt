pub mod Lent
pub mod Needed
