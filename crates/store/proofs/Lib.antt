pub mod EntryLaws
pub mod MarkLaws
