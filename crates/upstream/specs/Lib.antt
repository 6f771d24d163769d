pub mod Answers
pub mod Registry
pub mod Store
