pub mod Sums
pub mod Walking
pub mod Tallies
pub mod Balances
