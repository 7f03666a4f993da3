pub mod ChangedColumns
