use Rattle.session_data.specs.Planned.{Holds, IsSettled}
use Rattle.session_data.proofs.PlanLoops.{TurnedBefore}
use Rattle.session_data.proofs.plans.abort_all.Given as goal

abbrev pub invariant-loop-planned : goal.invariant-loop-planned
invariant-loop-planned l = TurnedBefore (λ types F G. Holds types F) (λ types F G. IsSettled types F) l.initial.plans l.plans l.planned-index
