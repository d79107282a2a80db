pub mod SequenceNumber
pub mod Comparisons
pub mod Rfc1982
