pub mod CanAct
