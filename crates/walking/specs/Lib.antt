-- What the walk to a reading promises.
pub mod Walking
