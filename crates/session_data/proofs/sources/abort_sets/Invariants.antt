use Rattle.weighted_set.specs.Held.{HeldDatasets}
use Rattle.session_data.proofs.HeldLemmas.{SettledBefore}
use Rattle.session_data.proofs.sources.abort_sets.Given as goal

abbrev pub invariant-loop-at : goal.invariant-loop-at
invariant-loop-at l = SettledBefore (λ (set : HeldDatasets). set.committed) l.initial.sets l.sets l.at
