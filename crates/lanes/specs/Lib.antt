-- For the code alone: the table by blocks of eight, and sums over its splits.
pub mod Sums
pub mod Blocks
