-- What the theorems say of each call, and of the printer's and the old log reader's
-- calls together.
pub mod Once
pub mod Unlinked
pub mod Refused
pub mod Printer
pub mod Rebuilder
