-- Iarwennol. Laws that only the proofs of this crate cite.
mod Sending
mod Ways
mod Steady
