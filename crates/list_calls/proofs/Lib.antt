pub mod Standing
pub mod Homes
pub mod Filling
pub mod Records
pub mod Hands
pub mod Stock
pub mod Spares
pub mod Reached
