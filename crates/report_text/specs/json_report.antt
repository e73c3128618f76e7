pub mod ReportData
pub mod Forms
pub mod JsonLaws
