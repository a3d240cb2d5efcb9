-- The pair to join. For a reader: Closest, Rule. For the code alone: Boxes, Live, Rows.
pub mod Closest
pub mod Rule
pub mod Boxes
pub mod Live
pub mod Rows
