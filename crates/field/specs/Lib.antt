pub mod Choice
pub mod Answer
pub mod Refusal
pub mod Octets
pub mod Field
pub mod Place
