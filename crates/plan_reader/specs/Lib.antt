pub mod Fields
pub mod Items
pub mod Runs
pub mod Reducers
pub mod Steps
pub mod Plans
pub mod Written
