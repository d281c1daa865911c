pub mod Ends
pub mod Fresh
pub mod Adding
pub mod Holding
pub mod Seeing
pub mod Callers
