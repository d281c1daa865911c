pub mod Replies
pub mod Phased
pub mod Fullness
pub mod Unshared
pub mod Unreclaimed
pub mod Counts
