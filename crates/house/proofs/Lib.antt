-- The laws of sink files and joined files.
pub mod Answers
pub mod JoinsAnswers
pub mod Lengths
pub mod RoundTrip
pub mod JoinsTrip
pub mod Outcomes
pub mod Accepting
pub mod Calls
