pub mod Delivery
pub mod Message
pub mod Sent
pub mod Tells
pub mod Demand
