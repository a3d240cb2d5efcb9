-- The measures and what is made of them. For a reader: Range, and `unlifted` of Measures. For the code alone: the rest of Measures, Boxes, Spots, Covers.
pub mod Range
pub mod Measures
pub mod Boxes
pub mod Spots
pub mod Covers
