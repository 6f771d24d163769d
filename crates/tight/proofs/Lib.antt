pub mod Different
pub mod Refused
pub mod Tight
