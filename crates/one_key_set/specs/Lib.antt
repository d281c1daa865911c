pub mod Knowing
pub mod Answers
pub mod Pieces
