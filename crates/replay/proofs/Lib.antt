pub mod ReadLaws
pub mod RunLaws
pub mod StartLaws
