-- The exact search: the call. For a reader: Rooms, Searching. For the code alone: Prepared.
pub mod Rooms
pub mod Searching
pub mod Prepared
