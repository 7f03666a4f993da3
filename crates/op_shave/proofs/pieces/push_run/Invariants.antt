use Rattle.std.specs.Prelude.{replicate}
use Rattle.weighted_set.specs.Changes.{entries_of}
use Rattle.op_shave.specs.Shavings.{AreShaved}
use Rattle.op_shave.proofs.pieces.push_run.Given as goal

abbrev pub invariant-loop-at : goal.invariant-loop-at
invariant-loop-at l = AreShaved l.row l.place (replicate l.at l.run.weight) l.fn.weight (entries_of l.fn.into.items) (entries_of l.into.items) l.rest
