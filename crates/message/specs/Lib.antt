pub mod Layout
pub mod Read
pub mod Kinds
pub mod Reader
pub mod Laws
pub mod Lent
