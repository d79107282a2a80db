pub mod KindLaws
pub mod ReaderLaws
pub mod ReadBack
pub mod TakenLaws
pub mod RefusalLaws
pub mod ReadBytesLaws
pub mod ReadingLaws
pub mod FirstLaws
