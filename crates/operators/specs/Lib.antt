pub mod Weights
pub mod Operators
pub mod InRange
pub mod Keys
pub mod Laws
