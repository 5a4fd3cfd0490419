-- Laws of what is seen, on which the proofs of the visit rest.
pub mod SeenTogether
