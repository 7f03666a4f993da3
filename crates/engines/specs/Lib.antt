pub mod Products
pub mod Standing
pub mod Touched
pub mod Staging
pub mod Work
pub mod WholeInputs
pub mod Engines
pub mod Ticks
