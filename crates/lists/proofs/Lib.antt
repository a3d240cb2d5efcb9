-- The laws of what loops share.
pub mod Tests
pub mod First
pub mod Any
pub mod Grow
pub mod Front
pub mod Onto
pub mod Sums
pub mod Zeros
