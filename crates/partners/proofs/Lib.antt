-- The laws of the pair to join, and of the live nodes.
pub mod Members
pub mod Pairs
pub mod Boxing
pub mod Packed
pub mod Ruled
-- the pairs that are written
pub mod Unnamed
-- what is kept beside each live node
pub mod Moving
pub mod Rowing
pub mod Leasts
pub mod Placing
pub mod Halving
pub mod Entering
pub mod Closing
pub mod Picking
pub mod Ending
