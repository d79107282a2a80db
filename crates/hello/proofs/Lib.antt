pub mod HelloLaws
