pub mod Steady
pub mod Unlisted
