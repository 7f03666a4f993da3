pub mod Taking
pub mod Group
pub mod GroupLaws
