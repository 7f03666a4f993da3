pub mod Reduced
pub mod Sorted
pub mod Steps
pub mod Listed
