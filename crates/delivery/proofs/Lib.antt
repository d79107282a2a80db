pub mod MessageLaws
pub mod DeliveryLaws
pub mod InductionLaws
pub mod SentLaws
pub mod TellsLaws
pub mod Theorem
pub mod Computed
pub mod Instance
