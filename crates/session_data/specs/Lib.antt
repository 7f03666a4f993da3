pub mod Flow
pub mod FlowFaults
pub mod Held
pub mod Planned
pub mod Work
