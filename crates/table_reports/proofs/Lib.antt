pub mod AddingUp
pub mod Counting
pub mod OneHistory
pub mod Pairs
