pub mod Walk
pub mod Opened
