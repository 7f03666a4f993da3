use Rattle.std.proofs.lemmas.List.{length-map}
use Rattle.plan_reader.proofs.BuiltSteps.{is_plan-each}
use Rattle.plan_reader.proofs.StepsAfter.{steps_after-none}
use Rattle.plan_reader.proofs.plan.read_plan.Goals as goal

pub from_steps-requires : goal.from_steps-requires
from_steps-requires c =
    is_plan-each _ _ (rw length-map c.in_ok-list.ensures.some) (rw length-map c.if-list-gt-MAX_STEPS.false)
    (rw steps_after-none at c.in_ok-steps.ensures)
