pub mod Reports
pub mod History
