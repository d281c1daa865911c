pub mod Intervals
pub mod Keeping
