use Rattle.session_data.specs.Planned.{IsPrepared, IsSettled}
use Rattle.session_data.proofs.PlanLoops.{TurnedBefore}
use Rattle.session_data.proofs.plans.commit_all.Given as goal

abbrev pub invariant-loop-planned : goal.invariant-loop-planned
invariant-loop-planned l = TurnedBefore IsPrepared (λ types F G. IsSettled types G) l.initial.plans l.plans l.planned-index
