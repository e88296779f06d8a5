pub mod Field
pub mod Compressor
pub mod Decompressor
pub mod All
pub mod Sound
pub mod Ranges
