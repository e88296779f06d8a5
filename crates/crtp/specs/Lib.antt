pub mod FaceLaws
pub mod Face
pub mod Robust
pub mod Unsaved
pub mod Alike
pub mod Example
pub mod Cases
