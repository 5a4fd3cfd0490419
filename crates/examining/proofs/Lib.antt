-- What the proofs of examining rest on, in reading order.
pub mod Answers
pub mod Examining
pub mod Eights
pub mod AtRoot
pub mod Told
