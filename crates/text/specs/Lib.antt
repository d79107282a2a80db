pub mod Text
pub mod Fails
