-- Iarwennol. Laws that only proofs cite, of this crate and of those above it.
pub mod Range
pub mod CrLaws
pub mod CsLaws
pub mod CuLaws
pub mod FhFormLaws
pub mod FhLaws
pub mod FhPacketLaws
pub mod WholeLaws
pub mod FitsLaws
pub mod HeadLaws
pub mod SentLaws
