pub mod Computed
pub mod Accepted
pub mod Misfits
