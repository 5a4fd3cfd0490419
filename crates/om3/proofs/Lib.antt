-- The numbers of the documents, as the definitions compute them.
pub mod Numbers
pub mod Causes
pub mod LaterNumbers
