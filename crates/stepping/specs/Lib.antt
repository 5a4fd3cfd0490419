-- Nodes as they are reached by going down, and what one step from them promises, in reading order.
pub mod Nodes
pub mod Stepping
