pub mod Form
pub mod Kinds
pub mod Reading
pub mod Calls
pub mod Loaded
pub mod Answered
pub mod Examples
