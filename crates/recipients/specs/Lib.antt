pub mod Recipients
