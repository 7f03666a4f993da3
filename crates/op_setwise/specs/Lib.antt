pub mod Setwise
pub mod SetLaws
