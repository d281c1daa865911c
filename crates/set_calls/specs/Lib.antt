pub mod Answers
pub mod Spares
pub mod Going
pub mod Knowing
