pub mod Lent
pub mod Loaded
