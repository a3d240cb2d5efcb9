-- The exact search: subsets and splits, best, the work table, the kept splits. For a reader: Subsets, Best, Table, Entries, Kept, and the first record of Square.
pub mod Subsets
pub mod Best
pub mod Table
pub mod Entries
pub mod Kept
pub mod Square
