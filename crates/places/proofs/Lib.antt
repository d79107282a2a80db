pub mod MessageFailsLaws
pub mod WriterFailsLaws
pub mod PlaceTellsLaws
