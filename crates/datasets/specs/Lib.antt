pub mod Entries
pub mod Kept
pub mod Dataset
pub mod Families
pub mod Code
pub mod Laws
