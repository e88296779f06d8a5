pub mod Outgoing
pub mod Size
pub mod SizeLaws
pub mod StepLaws
