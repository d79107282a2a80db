pub mod ShapeLaws
pub mod Comparisons
