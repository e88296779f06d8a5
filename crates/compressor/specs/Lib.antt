pub mod Answer
pub mod Table
pub mod Lookup
pub mod Send
pub mod CanSend
pub mod Request
