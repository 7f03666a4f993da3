pub mod Parts
pub mod Outcomes
pub mod Draws
pub mod Fetching
pub mod Work
pub mod Laws
