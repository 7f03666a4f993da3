pub mod LineFronts
pub mod Numbers
pub mod Parts
