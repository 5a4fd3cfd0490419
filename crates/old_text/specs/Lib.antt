-- What deciding about an old log's text and printing it promise.
pub mod RebuiltText
