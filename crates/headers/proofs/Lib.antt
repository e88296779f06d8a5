pub mod Cases
pub mod UdpCases
pub mod CompressibleLaws
pub mod RoundTrip
pub mod ChecksumLaws
pub mod HeaderLaws
pub mod UdpChecksumLaws
