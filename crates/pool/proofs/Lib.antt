pub mod Passing
pub mod FreeChains
pub mod ShelfCalls
