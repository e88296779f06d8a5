pub mod Layout
pub mod LayoutLaws
pub mod Calls
pub mod CallsLaws
