pub mod ElementLaws
pub mod ValueLaws
pub mod FailsLaws
pub mod TypeLaws
