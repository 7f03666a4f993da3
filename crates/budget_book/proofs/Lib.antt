pub mod AskRanges
pub mod Amounts
pub mod Charges
