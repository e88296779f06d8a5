pub mod Rules
pub mod Stored
pub mod Written
pub mod Unlisted
