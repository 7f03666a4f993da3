pub mod Primitives
pub mod Tables
