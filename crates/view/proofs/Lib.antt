-- What a view holds, and what it answers.
pub mod Viewed
pub mod Clauses
