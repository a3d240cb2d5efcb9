-- The laws of embedding: the places that the code finds, and what the tree of a call is worth.
pub mod Spots
pub mod Whole
pub mod Described
pub mod ZeroSkew
pub mod Rooms
pub mod Outcomes
