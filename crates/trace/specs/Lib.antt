pub mod Run
pub mod Report
pub mod Embedding
pub mod Stops
pub mod Followed
pub mod Bench
