pub mod Members
pub mod Positions
pub mod Parts
pub mod Rows
pub mod Reached
pub mod Charges
pub mod StableSteps
pub mod Stability
