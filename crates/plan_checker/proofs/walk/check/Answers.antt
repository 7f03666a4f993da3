use Rattle.std.proofs.Common.{ap, ap₂, sym, subst, ◌∙◌, arith}
use Rattle.plan_model.specs.Acceptance.{first_fault}
use Rattle.plan_checker.specs.Checked.{CheckedPlan}
use Rattle.plan_checker.specs.Stability.{IsStable}
use Rattle.plan_checker.specs.Steps.{row_step}
use Rattle.plan_checker.proofs.Reached.{checked_end, made_some, reached_end, reached_fault, reached_more, step_after_columns, step_after_counts, step_after_signs}
use Rattle.plan_checker.proofs.Stability.{plan_is_stable}
use Rattle.plan_checker.proofs.walk.check.Goals as goal

pub counts_step-requires-clause-step : goal.counts_step-requires-clause-step
counts_step-requires-clause-step c =
    rw c.as_slice.ensures.value (step_after_counts _ _ _ _ _ _ c.loop-at.invariant _ c.step-step.ensures c.len-at-end.ensures.plan)

pub first_fault-requires-clause-columns : goal.first_fault-requires-clause-columns
first_fault-requires-clause-columns c =
    rw c.as_slice-columns.ensures.value (step_after_columns _ _ _ _ _ _ c.loop-at.invariant _ c.step-step.ensures c.len-at-end.ensures.plan)

pub first_fault-requires-clause-signs : goal.first_fault-requires-clause-signs
first_fault-requires-clause-signs c =
    rw c.as_slice-signs.ensures.value (step_after_signs _ _ _ _ _ _ c.loop-at.invariant _ c.step-step.ensures c.len-at-end.ensures.plan)

pub returns-in-Some-clause-err : goal.returns-in-Some-clause-err
returns-in-Some-clause-err c =
    let counts = c.in_ok-counts.counts in
    let s = c.step-step.result.now in
    let types = c.args.types.now in
    let made = c.in_ok-counts.ensures ∙ ap (row_step types s) c.as_slice.ensures.value in
    let fault = c.first_fault.ensures ∙ ap₂ (λ cs bs. first_fault types s cs bs counts) c.as_slice-columns.ensures.value c.as_slice-signs.ensures.value in
    reached_fault _ _ _ _ _ _ c.loop-at.invariant s c.step-step.ensures counts c.in-Some.what made (sym fault ∙ c.in-Some.is)

pub push-requires-clause-columns : goal.push-requires-clause-columns
push-requires-clause-columns c = step_after_columns _ _ _ _ _ _ c.loop-at.invariant _ c.step-step.ensures c.len-at-end.ensures.plan

pub push-requires-clause-signs : goal.push-requires-clause-signs
push-requires-clause-signs c = step_after_signs _ _ _ _ _ _ c.loop-at.invariant _ c.step-step.ensures c.len-at-end.ensures.plan

pub loop-at-preserved : goal.loop-at-preserved
loop-at-preserved c =
    let counts = c.in_ok-counts.counts in
    let s = c.step-step.result.now in
    let types = c.args.types.now in
    let made = c.in_ok-counts.ensures ∙ ap (row_step types s) c.as_slice.ensures.value in
    let fault = c.first_fault.ensures ∙ ap₂ (λ cs bs. first_fault types s cs bs counts) c.as_slice-columns.ensures.value c.as_slice-signs.ensures.value in
    let pushed = c.in_ok-push.ensures in
    reached_more _ _ _ _ _ _ c.loop-at.invariant s c.step-step.ensures counts _ _ _ made (sym fault ∙ c.in_default.is) pushed.columns pushed.signs pushed.counts

pub last-requires : goal.last-requires
last-requires c =
    let some = made_some _ _ _ _ _ _ c.loop-at.invariant (omega arith) (omega arith) c.len-at-end.ensures.plan in
    record { columns = some.0; signs = some.1; counts = some.2 }

pub returns-clause-ok : goal.returns-clause-ok
returns-clause-ok c =
    let reached = c.loop-at.invariant in
    let told = c.last.ensures in
    (reached_end _ _ _ _ _ _ reached (omega arith), checked_end _ _ _ _ _ _ reached c.last.result (omega arith) c.len-at-end.ensures.plan told.columns told.sign told.uses)

pub returns-clause-stable : goal.returns-clause-stable
returns-clause-stable c =
    let reached = c.loop-at.invariant in
    let told = c.last.ensures in
    let plan = c.len-at-end.ensures.plan in
    let is = checked_end _ _ _ _ _ _ reached c.last.result (omega arith) plan told.columns told.sign told.uses in
    let uses_are = sym (ap (λ (x : CheckedPlan). x.uses) is) in
    subst (IsStable c.args.plan.now c.args.types.now) uses_are (plan_is_stable c.args.plan.now c.args.types.now plan (reached_end _ _ _ _ _ _ reached (omega arith)))
