-- The laws of numbers as text, and of texts that are written one after the other.
pub mod Decimal
pub mod Written
