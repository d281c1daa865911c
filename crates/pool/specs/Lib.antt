pub mod Looks
pub mod Calls
