pub mod ZeroLaws
pub mod RecordLaws
pub mod BackLaws
pub mod ReadingLaws
pub mod StoringLaws
pub mod LoadedLaws
pub mod AnsweredLaws
pub mod Computed
