use Rattle.plan_model.proofs.TypedValues.{kind-value_if}
use Rattle.plan_model.proofs.laws.law_values.Goals as goal

pub returns : goal.returns
returns c = kind-value_if
