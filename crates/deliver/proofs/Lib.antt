pub mod MessagesLaws
pub mod ReadyLaws
