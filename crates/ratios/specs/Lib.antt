pub mod Gcd
pub mod Reduced
pub mod Ratio
pub mod Code
pub mod Range
pub mod Sums
pub mod Laws
