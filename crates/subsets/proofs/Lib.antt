-- The laws of subsets and of the work table.
-- distances, and the diameter of a subset
pub mod Members
pub mod Distances
pub mod Rows
pub mod Small
-- subsets, splits and steps
pub mod Digits
pub mod Rank
pub mod Lowest
pub mod Widths
pub mod Splits
pub mod Scan
pub mod Runs
pub mod Filling
pub mod Counting
-- the kept splits, and their joins as they are written
pub mod KeptParts
pub mod Numbering
pub mod Agree
-- the table
pub mod Finished
pub mod Bellman
pub mod Recursion
pub mod FirstLeast
pub mod Partway
pub mod Entries
-- no tree is shorter
pub mod Bits
pub mod Masks
pub mod NoneShorter
-- the kept joins are a joining order
pub mod Named
pub mod KeptJoins
