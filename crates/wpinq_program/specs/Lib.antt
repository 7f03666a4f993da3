pub mod Limits
pub mod Faults
pub mod Served
pub mod Shown
pub mod Stream
pub mod Outcome
