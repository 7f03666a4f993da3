pub mod Folds
pub mod Running
pub mod Falls
pub mod Fronts
pub mod Walks
pub mod Checked
pub mod Keys
pub mod Grouped
