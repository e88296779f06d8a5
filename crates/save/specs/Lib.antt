pub mod SaveLaws
pub mod LentLaws
