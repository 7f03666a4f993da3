-- The columns of the input that a node is made for.
use Rattle.std.specs.Prelude.{◌≡◌, ℕ, ◌<◌, true, List, [], length}
use Rattle.std.proofs.Common.{get_or, subst, ◌∙◌}
use Rattle.std.specs.List.{AllByRecursion}
use Rattle.std.proofs.lemmas.List.{get_or_default}
use Rattle.plan_model.specs.Inputs.{inputs}
use Rattle.plan_model.specs.Limits.{is_step}
use Rattle.plan_model.specs.Types.{columns_at}
use Rattle.plan_model.specs.declared.step.Step.{Step}
use Rattle.record_text.specs.declared.kinds.Kind.{Kind}
use Rattle.plan_model.proofs.StepLaws.{inputs_are_earlier}

pub columns_here : (columns : List (List Kind)) (of : ℕ) (cols : List Kind) → cols ≡ get_or columns of cols → of < length columns → cols ≡ columns_at columns of
columns_here columns of cols is within = is ∙ get_or_default columns of cols [] within

-- the inputs of this kind of step are earlier
pub before_as : (n : ℕ) (s t : Step) → s ≡ t → is_step n s ≡ true → AllByRecursion (λ j. j < n) (inputs t)
before_as n s t same step = subst (λ u. AllByRecursion (λ j. j < n) (inputs u)) same (inputs_are_earlier n s step)
