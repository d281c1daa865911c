pub mod Clauses
pub mod Ending
pub mod Plays
pub mod Reading
pub mod Settings
pub mod Sizes
pub mod Tables
