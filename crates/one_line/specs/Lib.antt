-- What the functions that read one line promise.
pub mod Lines
pub mod Scan
