pub mod Seats
pub mod Sparing
pub mod Hands
