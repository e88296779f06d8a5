-- Iarwennol. Laws that only proofs cite, of this crate and of those above it.
pub mod NarrowLaws
pub mod Placing
pub mod Arriving
pub mod SteadyWay
