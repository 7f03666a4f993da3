pub mod Equality
pub mod Numerals
pub mod Rows
pub mod Lists
mod Bytes
mod Filling
