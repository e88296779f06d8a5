pub mod Fh
pub mod Cs
pub mod Sent
pub mod Head
pub mod Cu
pub mod Cr
pub mod Whole
