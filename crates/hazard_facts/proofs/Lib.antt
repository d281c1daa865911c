pub mod Frames
pub mod Reaching
pub mod Scanning
pub mod Freeing
pub mod PointersLaws
