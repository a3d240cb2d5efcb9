-- The sinks of a call. For a reader: Refusals, Said, Sinks, Bounds.
pub mod Refusals
pub mod Said
pub mod Sinks
pub mod Bounds
