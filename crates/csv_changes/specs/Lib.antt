pub mod Changes
pub mod RecordsLeft
