pub mod FileLemmas
pub mod KnownLemmas
pub mod PathBytes
pub mod PathTests
