pub mod Rules
pub mod Stored
