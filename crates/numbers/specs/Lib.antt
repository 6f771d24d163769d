pub mod Registry
pub mod Store
pub mod Calls
