-- Iarwennol. Laws that only proofs cite.
pub mod Bits
