pub mod TextLaws
pub mod TypeLaws
pub mod LineLaws
