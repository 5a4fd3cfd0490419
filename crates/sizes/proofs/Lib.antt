-- What the proofs of `places` and `power` rest on; then what it means that checks 1 and 3, and 4 after them, pass for a
-- table; then what the calls that tell sizes promise.
pub mod Powers
pub mod Lent
pub mod TableChecks
pub mod Clauses
