-- What it is that a call asks nothing and promises one fact, said of its contract as the kit reads it from the source.
pub mod Calls
