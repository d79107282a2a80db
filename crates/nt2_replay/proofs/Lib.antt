pub mod FewLaws
pub mod Theorem
