pub mod Comparisons
pub mod Rfc1982
