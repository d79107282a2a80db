pub mod Names
pub mod Table
pub mod Stored
pub mod Memory
