pub mod ListedParts
pub mod GroupedParts
