pub mod FormLaws
pub mod SaveLaws
