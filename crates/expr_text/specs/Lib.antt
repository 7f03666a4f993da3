pub mod Gives
pub mod Fields
pub mod Forms
pub mod Exprs
pub mod Written
