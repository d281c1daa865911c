pub mod Rounds
pub mod Debra
