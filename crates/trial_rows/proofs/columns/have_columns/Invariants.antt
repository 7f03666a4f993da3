use Rattle.std.proofs.Common.{◌≡◌, All, take}
use Rattle.record_text.specs.KindLists.{kinds_of}
use Rattle.trial_rows.proofs.columns.have_columns.Given as goal

abbrev pub invariant-loop-change : goal.invariant-loop-change
invariant-loop-change l = All (λ c. kinds_of c.row ≡ l.cols) (take l.change-index l.changes)
