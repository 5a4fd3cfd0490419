-- What the boundary tells, in reading order.
pub mod Tables
pub mod Records
pub mod Columns
pub mod Says
