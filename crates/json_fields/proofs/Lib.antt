pub mod Members
pub mod KeyOrder
pub mod Walks
