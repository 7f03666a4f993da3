pub mod Demo
pub mod Growth
pub mod Laws
