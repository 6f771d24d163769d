pub mod Guard
pub mod Steps
pub mod Publications
pub mod Leases
pub mod Build
