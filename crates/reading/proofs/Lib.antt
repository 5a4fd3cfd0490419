-- What the proofs of reading rest on, in reading order.
pub mod ReadingParts
pub mod ReadingRecords
pub mod Clauses
