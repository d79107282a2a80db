pub mod SettleLaws
pub mod GatherLaws
