pub mod TextLaws
pub mod FailsLaws
