pub mod Gives
pub mod Fields
