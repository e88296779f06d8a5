-- Iarwennol. Laws that only proofs cite, of this crate and of those above it.
pub mod NextRange
mod Taken
