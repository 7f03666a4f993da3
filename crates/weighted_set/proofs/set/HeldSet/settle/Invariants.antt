use Rattle.std.proofs.Common.{◌≡◌}
use Rattle.std.specs.Vec.{vec_len}
use Rattle.weighted_set.specs.Held.{IsSet, seen_by, viewed}
use Rattle.weighted_set.proofs.set.HeldSet.settle.Given as goal

abbrev pub invariant-loop-row : goal.invariant-loop-row
invariant-loop-row l = record {
  set : IsSet l.self-inside.table.entries l.self-inside.touched.items l.self-inside.len;
  viewed : seen_by l.view l.self-inside.table.entries ≡ viewed l.view l.fn.self;
}

abbrev pub decreases-loop-row : goal.decreases-loop-row
decreases-loop-row l = vec_len l.self-inside.touched
