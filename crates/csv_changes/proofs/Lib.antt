pub mod CsvRecords
pub mod Fronts
pub mod ChangeKinds
