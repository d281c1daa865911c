pub mod Answers
pub mod Turns
pub mod Callers
pub mod Drawing
pub mod Hands
