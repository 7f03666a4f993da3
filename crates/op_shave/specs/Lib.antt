pub mod Shave
pub mod Shavings
pub mod Cells
pub mod ShaveLaws
