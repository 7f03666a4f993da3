use Rattle.std.proofs.Common.{◌≡◌, map, Ok}
use Rattle.std.proofs.lemmas.Result.{IfOk-weaker}
use Rattle.serde_json.specs.View.{view}
use Rattle.plan_reader.specs.Plans.{plan_walk}
use Rattle.plan_reader.specs.Written.{plan_data}
use Rattle.plan_reader.proofs.StepsReadBack.{reads-plan}
use Rattle.plan_reader.proofs.write.plan_to_json.Goals as goal

pub returns : goal.returns
returns c =
    IfOk-weaker c.plan_of.result (λ v. view v ≡ plan_data (map view c.in_ok-steps.steps.items)) (λ v. plan_walk (view v) ≡ Ok c.args.plan.now)
    (λ v is. rw is (reads-plan c.args.plan.now (map view c.in_ok-steps.steps.items) c.in_ok-steps.ensures.plan c.in_ok-steps.ensures.values)) c.plan_of.ensures
