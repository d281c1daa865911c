pub mod Going
pub mod Seen
pub mod Placed
pub mod Answering
pub mod Filling
