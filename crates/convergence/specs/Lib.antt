pub mod Begin
pub mod Demand
pub mod Beside
