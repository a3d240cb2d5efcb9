-- Numbers as text. For a reader: Decimal. For the code alone: Written.
pub mod Decimal
pub mod Written
