-- What the proofs of the columns rest on, in reading order.
pub mod Checking
pub mod Depths
pub mod Stopping
pub mod Finishing
pub mod Founding
pub mod Calls
pub mod Clauses
