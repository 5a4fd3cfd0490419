-- What the visit of a column's nodes promises, in reading order.
pub mod Visiting
pub mod Narrowing
