use Rattle.std.proofs.Common.{◌≡◌, true}
use Rattle.std.proofs.lemmas.Bool.{and_parts}
use Rattle.plan_model.specs.Limits.{is_expr, is_step}
use Rattle.plan_model.specs.Values.{has_places, term_of}
use Rattle.plan_checker.proofs.Parts.{step_of_plan}
use Rattle.plan_tests.proofs.model.test_of.Goals as goal

pub returns-in-Filter : goal.returns-in-Filter
returns-in-Filter c =
    let whole : is_step 1 c.step.result.now ≡ true = step_of_plan c.args.plan.now 1 c.step.result.now c.step.ensures c.len.ensures.plan in
    let filter = rw c.in-Filter.is at whole in
    let test = (and_parts _ (is_expr c.in-Filter.test) filter).1 in
    (and_parts _ (has_places (term_of c.in-Filter.test)) test).1
