pub mod Taken
pub mod TakenLaws
pub mod Steady
