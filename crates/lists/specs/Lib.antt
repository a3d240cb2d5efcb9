-- What loops share: the first index at which a test holds, and lists that are made from the front.
pub mod First
pub mod Grow
