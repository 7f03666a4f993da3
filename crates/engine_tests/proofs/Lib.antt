pub mod Empty
pub mod Trials
