-- Laws about numbers spelled in bytes, and about coefficients packed in three.
pub mod Spelled
pub mod Threes
pub mod Packed
