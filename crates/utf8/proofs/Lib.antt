pub mod Utf8Laws
pub mod CharactersLaws
pub mod RowsLaws
