-- The table of checked examples. What a row is: Calls, Example. The rows: Trees and Limits, which are document 01's own, and Ties, Refused, Files, Texts, Delays. All of them: Table.
pub mod Calls
pub mod Example
pub mod Trees
pub mod Limits
pub mod Ties
pub mod Refused
pub mod Files
pub mod Texts
pub mod Delays
pub mod Table
