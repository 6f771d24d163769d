pub mod Reading
pub mod Decimal
pub mod Digits
pub mod Value
pub mod Words
pub mod Ops
pub mod Keys
pub mod Lines
