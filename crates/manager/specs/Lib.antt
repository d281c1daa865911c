pub mod Callers
pub mod Manners
pub mod Guards
pub mod Made
pub mod Counted
pub mod Giving
pub mod Meeting
