pub mod Causes
pub mod Known
pub mod Limits
pub mod Path
pub mod Shelf
pub mod Devices
