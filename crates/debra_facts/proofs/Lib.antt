pub mod Fits
pub mod Readings
pub mod Looks
pub mod Stores
pub mod Lives
pub mod Frees
pub mod DebraLaws
pub mod Frozen
