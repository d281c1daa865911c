pub mod Cells
pub mod Replaced
