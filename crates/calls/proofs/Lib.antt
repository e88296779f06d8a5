-- Iarwennol. The theorem on lists of calls, for the crates that name two ends.
pub mod Always
pub mod Laws
mod Trail
mod Marks
mod Linked
pub mod Faithful
pub mod Earlier
pub mod Literal
