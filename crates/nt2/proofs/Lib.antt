pub mod Results
pub mod UnchangedLaws
pub mod FewLaws
pub mod Beside
pub mod Calls
pub mod Theorem
pub mod WithoutPlaceLaws
