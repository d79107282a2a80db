pub mod KindLaws
pub mod WriterLaws
pub mod WrittenBack
