pub mod DoubleLaws
