pub mod Plain
pub mod Progress
