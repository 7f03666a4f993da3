-- Why a graph has no answer.
use Rattle.std.specs.Prelude.{◌≡◌, List, Some}
use Rattle.plan_model.specs.Evaluation.{Family}
use Rattle.plan_model.specs.Fits.{misfit}
use Rattle.plan_model.specs.declared.source_types.SourceType.{SourceType}
use Rattle.plan_model.specs.declared.step.Step.{Step}
use Rattle.dataflow.specs.declared.passes.GraphFault.{GraphFault}
use Rattle.dataflow.specs.declared.passes.GraphFault.TheVariants.{Range, Memory}

-- the first step of the plan that doesn't fit the family; Memory is tied to nothing
abbrev pub IsMisfit : List Step → List SourceType → Family → GraphFault → Type 0
IsMisfit plan types F (Range step) = misfit plan types F ≡ Some step
IsMisfit plan types F Memory = Unit {0}
