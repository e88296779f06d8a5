pub mod Planes
pub mod Flow
