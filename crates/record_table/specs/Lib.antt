pub mod Handles
pub mod Recording
pub mod Meeting
pub mod Made
pub mod Closing
pub mod Nodes
pub mod ToldLinks
pub mod ToldShelves
