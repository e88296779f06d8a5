-- Iarwennol. The theorems as they were asked for.
pub mod Link
pub mod Unsaved
pub mod Saves
pub mod Facing
pub mod Sum
pub mod Values
pub mod Judged
