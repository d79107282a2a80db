pub mod Utf8
pub mod MarkedTexts
pub mod Edges
pub mod Characters
pub mod Rows
