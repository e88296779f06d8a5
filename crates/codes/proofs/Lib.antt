-- Iarwennol. Laws that only proofs cite, of this crate and of those above it.
pub mod BytesRead
pub mod ReadingLaws
pub mod RoundTrip
pub mod Cases
