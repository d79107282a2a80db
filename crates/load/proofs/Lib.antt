pub mod RecordsLaws
pub mod StoreLaws
pub mod CallLaws
pub mod ClosedLaws
