pub mod Rtp
pub mod Header
pub mod Checksum
pub mod UdpChecksum
pub mod Compressible
pub mod RtpLaws
pub mod ListLaws
