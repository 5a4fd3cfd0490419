-- Why printing into a buffer meets its contracts.
pub mod Putting
pub mod Digits
pub mod Numbers
pub mod Flat
pub mod Lines
