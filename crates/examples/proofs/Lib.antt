-- The table of checked examples is proved.
pub mod Holds
