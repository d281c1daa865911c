pub mod Bytes
pub mod Edges
pub mod Faults
pub mod Meeting
pub mod Memory
pub mod Putting
pub mod Taking
