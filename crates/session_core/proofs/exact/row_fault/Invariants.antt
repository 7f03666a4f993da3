use Rattle.std.proofs.Common.{◌≡◌, take}
use Rattle.datasets.specs.Entries.{Row, has_row}
use Rattle.session_core.proofs.RowFaults.{IsFaultlessBefore}
use Rattle.session_core.proofs.exact.row_fault.Given as goal

abbrev pub invariant-loop-at : goal.invariant-loop-at
invariant-loop-at l = record {
  faultless : IsFaultlessBefore l.kinds l.rows l.at;
  before : (x : Row) → has_row l.before.keys x ≡ has_row (take l.at l.rows) x;
}
