-- The laws of the program's lines.
pub mod Printing
pub mod Fields
pub mod Children
pub mod Size
pub mod Same
