-- The laws of the call.
pub mod Finding
pub mod Promises
pub mod OnePlace
pub mod Outcomes
pub mod Calls
pub mod Buffers
