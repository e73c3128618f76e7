pub mod MeasureReport
