pub mod Loads
pub mod Stores
pub mod Scans
pub mod Opening
pub mod Reaching
pub mod Entered
pub mod Shifting
pub mod Retired
