pub mod HashRuns
pub mod NoneRuns
pub mod DebraRuns
pub mod HazardRuns
pub mod IbrRuns
