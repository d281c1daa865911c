pub mod Limits
pub mod Cuts
pub mod Text
pub mod Following
pub mod Turns
pub mod Progress
pub mod Refusals
