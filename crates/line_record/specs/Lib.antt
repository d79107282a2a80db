pub mod Plant
pub mod Held
pub mod Record
pub mod Replay
pub mod Calls
pub mod Demand
