pub mod Packing
pub mod Refs
pub mod Rows
