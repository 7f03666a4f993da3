pub mod Faults
pub mod Stepping
pub mod Pairs
pub mod Evaluated
pub mod Next
pub mod Works
pub mod RowsHeld
pub mod NodesWired
