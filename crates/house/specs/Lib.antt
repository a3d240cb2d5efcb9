-- Document 01, "House files": sink files and joined files, written and read.
pub mod Files
pub mod Writing
pub mod Reading
