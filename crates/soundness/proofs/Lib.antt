pub mod BelowLaws
pub mod EntryLaws
pub mod SoundLaws
pub mod ReadableLaws
pub mod StoredLaws
pub mod FingerprintLaws
