-- The laws of joining by least diameter: from join to join, and of the calls.
pub mod Running
pub mod Validity
pub mod Standing
pub mod ByRule
pub mod Going
pub mod Passing
pub mod Treed
pub mod ZeroSkew
pub mod Written
pub mod Outcomes
