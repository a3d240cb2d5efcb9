-- The laws of the program: what it prints, whatever its input is.
pub mod Fronts
pub mod Searched
pub mod ReadSinks
pub mod Outcomes
pub mod Withdrawn
