pub mod Steps
pub mod Checked
pub mod Stability
