pub mod Chains
pub mod Counts
pub mod Cuts
pub mod Moves
