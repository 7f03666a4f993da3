use Rattle.std.proofs.Common.{◌≡◌, take}
use Rattle.weighted_set.specs.Changes.{applied}
use Rattle.weighted_set.proofs.set.HeldSet.put_all.Given as goal

abbrev pub invariant-loop-change : goal.invariant-loop-change
invariant-loop-change l = record {
  committed : l.self.committed ≡ l.fn.self.committed;
  pending : l.self.pending ≡ applied l.fn.self.pending (take l.change-index l.changes);
}
