pub mod Retained
pub mod Runs
pub mod Shapes
