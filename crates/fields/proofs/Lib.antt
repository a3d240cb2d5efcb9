-- The laws of bytes and fields.
pub mod BigEndian
pub mod Records
pub mod Scan
pub mod Stores
pub mod Tags
pub mod TwosComplement
pub mod Values
pub mod Standing
pub mod Fieldwise
