pub mod Writer
pub mod Given
pub mod WrittenBack
