-- What is proved of what the boundary tells.
pub mod Says
pub mod Back
