use Rattle.std.specs.Prelude.{◌≡◌, length, take}
use Rattle.plan_model.specs.Evaluation.{pieces}
use Rattle.weighted_set.specs.Changes.{entries_of}
use Rattle.op_shave.specs.Shavings.{AreShaved}
use Rattle.op_shave.proofs.pieces.push_pieces.Given as goal

abbrev pub invariant-loop-at : goal.invariant-loop-at
invariant-loop-at l =
    (l.place ≡ length (pieces (take l.at l.runs))) × AreShaved l.row 0 (pieces (take l.at l.runs)) l.fn.weight (entries_of l.fn.into.items) (entries_of l.into.items) l.rest
