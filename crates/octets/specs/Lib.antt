pub mod Put
pub mod PutLaws
pub mod Flags
pub mod FlagsLaws
pub mod Sum
pub mod SumLaws
