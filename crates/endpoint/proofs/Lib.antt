-- Iarwennol. What the proofs of the calls cite, and the theorems on histories and on two endpoints that face each other.
mod Answers
mod Routed
mod Opening
pub mod History
pub mod Facing
mod Example
