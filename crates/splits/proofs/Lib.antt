-- The laws of examining splits four by four.
pub mod Fours
