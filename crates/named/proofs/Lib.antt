pub mod Telling
pub mod Filling
pub mod KeyRows
