pub mod Chosen
pub mod Commands
pub mod Numbers
pub mod Pairs
pub mod Records
