pub mod Explained
pub mod Histories
pub mod Keys
pub mod KeysWithRoom
pub mod Machine
pub mod Rising
