pub mod Sending
pub mod SpareFirst
