pub mod Walk
pub mod Fields
pub mod Laws
