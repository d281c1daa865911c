pub mod WalkSteps
pub mod ClosedRows
pub mod ClosedSums
pub mod TallySteps
pub mod GridSums
pub mod TallyBalance
pub mod ClosedBalance
