pub mod LineTexts
pub mod Printed
pub mod Printing
pub mod ReportText
pub mod SummaryText
pub mod Writing
