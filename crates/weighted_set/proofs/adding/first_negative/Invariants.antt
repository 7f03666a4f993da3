use Rattle.std.proofs.Common.{◌≡◌, drop}
use Rattle.std.specs.List.{position_from}
use Rattle.datasets.specs.Dataset.{Dataset, at, is_negative}
use Rattle.weighted_set.specs.Changes.{entries_of}
use Rattle.weighted_set.specs.Held.{HoldsStep}
use Rattle.weighted_set.proofs.adding.first_negative.Given as goal

abbrev pub invariant-loop-at : goal.invariant-loop-at
invariant-loop-at l =
    (B : Dataset) → HoldsStep l.running.entries l.set.committed B
    → position_from (λ e. is_negative (at B e.0)) 0 (entries_of l.added) ≡ position_from (λ e. is_negative (at B e.0)) l.at (drop l.at (entries_of l.added))
