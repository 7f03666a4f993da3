pub mod Reducing
pub mod Numerals
pub mod Forms
pub mod RoundTrip
