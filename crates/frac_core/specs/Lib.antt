pub mod Quotient
pub mod Text
