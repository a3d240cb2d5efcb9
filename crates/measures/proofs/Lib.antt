-- The laws of the measures.
pub mod Numbers
pub mod Lifted
pub mod Fairness
