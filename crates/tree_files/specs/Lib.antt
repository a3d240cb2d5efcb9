-- Document 01, "House files": tree files, and number 9.
pub mod Trees
