-- The program's lines. For a reader: Brackets, Lines, Printed. For the code alone: Parts.
pub mod Brackets
pub mod Lines
pub mod Printed
pub mod Parts
