pub mod Ignored
pub mod Answer
