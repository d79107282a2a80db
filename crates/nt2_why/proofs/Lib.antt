pub mod FewLaws
pub mod AnsweredLaws
