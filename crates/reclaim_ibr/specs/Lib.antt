pub mod LocalParts
pub mod Running
pub mod Meeting
pub mod Retiring
pub mod Steps
pub mod LocalStays
pub mod Adding
