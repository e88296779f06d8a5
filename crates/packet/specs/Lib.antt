pub mod Csrc
pub mod CsrcLaws
pub mod Ranges
pub mod RangesLaws
pub mod Types
pub mod Refusal
pub mod RefusalLaws
