pub mod Locking
pub mod Places
pub mod Walks
pub mod Pieces
pub mod Knowing
pub mod Tries
