pub mod ChoiceLaws
pub mod OctetsLaws
pub mod OverwriteLaws
pub mod FieldLaws
pub mod EqualLaws
pub mod PlaceLaws
