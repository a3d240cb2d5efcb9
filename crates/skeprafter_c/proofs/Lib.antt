-- The laws of what the functions for C say and leave behind.
pub mod Withdrawn
pub mod Standing
pub mod Outcomes
pub mod FileOutcomes
