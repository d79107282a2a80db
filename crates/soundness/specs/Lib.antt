pub mod Sound
pub mod Facts
pub mod Fingerprint
