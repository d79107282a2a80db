pub mod IgnoredLaws
pub mod AnswerLaws
pub mod Computed
