-- What the functions that print promise.
pub mod Putting
