pub mod OneRow
pub mod Takes
pub mod Appended
