pub mod Hands
pub mod Joins
pub mod Stock
pub mod Spares
