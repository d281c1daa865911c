pub mod Absences
pub mod Lazy
