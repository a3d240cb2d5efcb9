-- The laws of joining orders: what the check of joins accepts; nodes, parents and places of an accepted order; its wires and total; and what the arrays of the code come to.
pub mod Flags
pub mod Accepted
pub mod Boxing
pub mod Parents
pub mod Orders
pub mod Values
pub mod Upward
pub mod Lifting
pub mod Totals
pub mod Summed
pub mod Permuted
pub mod Joined
pub mod Theorem4
pub mod OnePlace
pub mod Reaches
pub mod Bounded
pub mod Fits
