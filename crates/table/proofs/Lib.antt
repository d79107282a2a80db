pub mod TabulateLaws
pub mod NamesLaws
pub mod SearchLaws
pub mod StoreLaws
pub mod UpdateLaws
