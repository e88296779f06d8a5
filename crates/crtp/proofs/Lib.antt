-- Iarwennol. The theorem, and what it rests on.
pub mod Lists
mod Arrivals
mod Tables
mod Given
mod OneContext
mod Laws
pub mod FullHeader
pub mod Robust
pub mod Unsaved
pub mod Alike
mod Calm
mod Tested
pub mod Example
