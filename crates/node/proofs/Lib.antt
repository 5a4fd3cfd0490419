-- What the proofs of this crate's functions share, and what all that go down a table use of a node and its places.
pub mod Told
pub mod Located
pub mod Rooms
