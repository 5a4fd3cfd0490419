-- Why reading one line meets its contracts.
pub mod Scan
pub mod Split
pub mod Fields
pub mod Numerals
pub mod Hours
