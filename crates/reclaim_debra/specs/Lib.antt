pub mod LocalParts
pub mod Running
pub mod Entering
pub mod Adding
pub mod Stamped
pub mod LocalStays
