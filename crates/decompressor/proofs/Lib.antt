-- Iarwennol. Laws that only proofs cite, of this crate and of those above it.
pub mod Judged
pub mod ReceiveSound
pub mod PacketLaws
pub mod ReceiveLaws
pub mod TableLaws
