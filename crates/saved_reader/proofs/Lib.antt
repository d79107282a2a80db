pub mod ZeroLaws
pub mod ReadLaws
