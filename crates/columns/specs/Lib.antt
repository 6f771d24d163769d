pub mod Columns
pub mod Verdicts
