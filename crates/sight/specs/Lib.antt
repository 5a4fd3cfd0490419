-- What is seen at the nodes of a column.
pub mod Seen
