pub mod Written
pub mod Lines
pub mod Names
pub mod NumberTurns
pub mod Build
