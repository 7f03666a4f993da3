-- The step that a graph's fault names.
use Rattle.std.proofs.Common.{◌≡◌, ℕ, List, Some, refl}
use Rattle.dataflow.specs.declared.passes.GraphFault.{GraphFault}
use Rattle.dataflow.specs.declared.passes.GraphFault.TheVariants.{Range, Memory}
use Rattle.plan_model.specs.Evaluation.{Family}
use Rattle.plan_model.specs.Fits.{misfit}
use Rattle.plan_model.specs.declared.source_types.SourceType.{SourceType}
use Rattle.plan_model.specs.declared.step.Step.{Step}
use Rattle.session_data.specs.FlowFaults.{IsMisfit}

-- a fault that names the first misfit wherever it names a step
pub is_misfit : (fault : GraphFault) (plan : List Step) (types : List SourceType) (F : Family) → ((i : ℕ) → fault ≡ Range i → misfit plan types F ≡ Some i) → IsMisfit plan types F fault
is_misfit (Range step) plan types F told = told step refl
is_misfit Memory plan types F told = tt
