-- What the functions for C say and keep.
pub mod Words
pub mod Kept
pub mod Trees
pub mod Searched
pub mod Files
