pub mod Place
pub mod Next
pub mod NextLaws
