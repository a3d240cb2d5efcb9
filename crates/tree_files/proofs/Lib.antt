-- The laws of tree files.
pub mod TreeAnswers
pub mod TreeLengths
pub mod TreeTrip
pub mod TreeCalls
