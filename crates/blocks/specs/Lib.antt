pub mod Saying
pub mod Fields
pub mod Blocks
pub mod Answers
pub mod Cases
