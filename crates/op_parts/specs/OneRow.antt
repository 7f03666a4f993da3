-- Datasets of one row.
pub use Rattle.operators.specs.Keys.{one_row}
