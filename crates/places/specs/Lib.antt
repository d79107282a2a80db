pub mod MessageFails
pub mod WriterFails
pub mod PlaceTells
