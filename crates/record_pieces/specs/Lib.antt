pub mod Hands
pub mod Spares
pub mod OwnSteps
pub mod Giving
pub mod Manners
pub mod Events
pub mod Trails
