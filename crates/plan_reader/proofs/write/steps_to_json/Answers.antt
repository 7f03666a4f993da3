use Rattle.std.proofs.Common.{rules}
use Rattle.plan_reader.specs.Steps.{step_at}
use Rattle.expr_text.proofs.ReadsOn.{next_reads}
use Rattle.plan_model.proofs.Plans.{step_of_plan}
use Rattle.plan_reader.proofs.write.steps_to_json.Goals as goal

pub step_to_json-requires : goal.step_to_json-requires
step_to_json-requires c = (c.loop-at.at, step_of_plan c.args.plan.now c.loop-at.at c.step.result.now c.step.ensures c.len.ensures.plan)

pub loop-at-preserved : goal.loop-at-preserved
loop-at-preserved c = record {
  read = rw c.in_ok-push.ensures.items
      (next_reads step_at c.loop-at.values.items c.args.plan.now c.loop-at.at c.in_ok-step_to_json.field-0 c.step.result.now
      c.step.ensures c.loop-at.invariant.len c.loop-at.invariant.read
      (c.in_ok-step_to_json.ensures c.loop-at.at (step_of_plan c.args.plan.now c.loop-at.at c.step.result.now c.step.ensures c.len.ensures.plan)));
  len = search rules;
}
