pub mod Chains
pub mod Wholes
