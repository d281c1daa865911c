mod Reached
mod Loaded
mod Looking
mod Steps
pub mod Ends
mod Inserted
mod Marking
pub mod Stock
pub mod Hands
pub mod Spares
