pub mod Buckets
pub mod Callers
pub mod Pieces
