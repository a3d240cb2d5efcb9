-- The mathematics, in document 01's words and order; then deferred-merge embedding as document 002, section I, has it.
pub mod Plane
pub mod Box
pub mod Segment
pub mod Tree
pub mod Order
pub mod Region
pub mod DeferredMerge
