pub mod Value
pub mod Types
pub mod Fails
