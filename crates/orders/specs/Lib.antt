-- Joining orders and the nodes that they make. For a reader: Joins, Nodes. For the code alone: Sound, Table, Arrays.
pub mod Joins
pub mod Nodes
pub mod Sound
pub mod Table
pub mod Arrays
