pub mod PlanesLaws
pub mod EveryLaws
pub mod LoopLaws
pub mod RowLaws
pub mod ChainLaws
