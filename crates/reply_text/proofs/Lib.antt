pub mod ListData
pub mod Plain
