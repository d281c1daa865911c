pub mod Lists
pub mod Tellings
pub mod Steps
pub mod Michael
pub mod Paths
pub mod ClosedLists
