pub mod There
pub mod KeepingLaws
pub mod Frozen
