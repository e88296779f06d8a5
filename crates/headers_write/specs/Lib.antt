pub mod Summed
pub mod SummedLaws
