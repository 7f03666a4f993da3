pub mod Members
pub mod Ranges
pub mod OneRows
pub mod OneKeys
pub mod PartEntries
pub mod Takes
pub mod Collected
mod MadeRows
pub mod ListedRows
