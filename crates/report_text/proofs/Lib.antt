pub mod AddsLemmas
pub mod PrintedCases
pub mod ReportLines
pub mod WritingLemmas
