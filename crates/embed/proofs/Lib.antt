-- What the proofs of the exported functions use.
mod Handed
pub mod Build
