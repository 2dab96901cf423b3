pub mod Columns
pub mod ColumnSteps
pub mod Counts
