-- The laws of the table by blocks of eight.
pub mod Turning
pub mod Deals
pub mod Parting
pub mod Dealing
pub mod Filled
pub mod Opening
pub mod Advancing
