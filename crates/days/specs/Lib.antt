-- What the contracts of the days say beside the definitions.
pub mod Given
