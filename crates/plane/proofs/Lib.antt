-- The laws of refusals, of the sinks of a call, and of their boxes.
pub mod Withdrawn
pub mod Numbered
pub mod Answered
pub mod Covering
pub mod Found
pub mod Checks
pub mod Unlifted
pub mod Outcomes
pub mod InTurn
pub mod Spread
