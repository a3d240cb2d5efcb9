-- Joining by least diameter. For a reader: Nearest, Calls. For the code alone: Rounds, Ready.
pub mod Nearest
pub mod Calls
pub mod Rounds
pub mod Ready
