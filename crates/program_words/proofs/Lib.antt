mod Matches
mod Numbers
mod Parse
pub mod WithinLimits
