use Rattle.std.proofs.Common.{take}
use Rattle.datasets.specs.Dataset.{Dataset}
use Rattle.weighted_set.specs.Changes.{applied}
use Rattle.weighted_set.specs.Held.{AllInRange}
use Rattle.engines.proofs.inputs.check_range.Given as goal

abbrev pub invariant-loop-change : goal.invariant-loop-change
invariant-loop-change l = (A : Dataset) → AllInRange A → AllInRange (applied A (take l.change-index l.changes))
