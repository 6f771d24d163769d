pub mod Search
pub mod Every
pub mod Column
pub mod Letters
pub mod Removal
pub mod Bijection
