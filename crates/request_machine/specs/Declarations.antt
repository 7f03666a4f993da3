-- Sums, sources and plans that are declared, and plans that are taken out.
use Rattle.std.specs.Prelude.{ℕ, nat_le, List, [], ◌∷◌, ◌++◌, length, if◌then◌else◌, Option, None, Some}
use Rattle.std.specs.List.{remove}
use Rattle.std.specs.Option.{option_map_or}
use Rattle.ratios.specs.Ratio.{Ratio}
use Rattle.ratios.specs.Sums.{ratio_sum, first_out_of_range}
use Rattle.record_text.specs.declared.kinds.Kind.{Kind}
use Rattle.plan_model.specs.Acceptance.{Fault, plan_fault_of}
use Rattle.plan_model.specs.Evaluation.{last_or}
use Rattle.plan_model.specs.Fits.{misfit}
use Rattle.plan_model.specs.Types.{columns}
use Rattle.plan_model.specs.declared.step.Step.{Step}
use Rattle.messages.specs.declared.refusal.Refusal.TheVariants as refusal
use Rattle.messages.specs.declared.thing.Thing.TheVariants as thing
use Rattle.messages.specs.declared.reply.Reply.{Reply}
use Rattle.messages.specs.declared.reply.Reply.TheVariants as reply
use Rattle.request_machine.specs.Charges.{by_name, uses_of}
use Rattle.request_machine.specs.Limits.{max_plans, max_sources}
use Rattle.request_machine.specs.Named.{first_named, index_named, plan_name, source_name}
use Rattle.request_machine.specs.State.{PlanState, SourceState, State, family_of, types_of}

-- ---- sum

-- the first weight at which the running sum is out of range, or else the sum
abbrev pub sum_reply : List Ratio → Reply
sum_reply weights =
    option_map_or (λ at. reply.Refused (refusal.SumRange at)) (first_out_of_range weights)
    (reply.SumOf (ratio_sum weights))

-- ---- declarations of sources

-- the state and the reply after a declaration: a name that is taken, then a source too many, are refused
abbrev pub declared_of : Option SourceState → State → SourceState → State × Reply
declared_of (Some other) state new = (state, reply.Refused (refusal.Exists thing.Source new.name))
declared_of None state new =
    if nat_le max_sources (length state.sources) then (state, reply.Refused (refusal.Full thing.Source))
    else (record state { sources = state.sources ++ new ∷ [] }, reply.Done)

unfoldable pub declared : State → SourceState → State × Reply
declared state new = declared_of (first_named source_name new.name state.sources) state new

-- ---- declarations of plans

-- the columns of a plan, those of its last step
abbrev pub columns_of : List SourceState → List Step → List Kind
columns_of sources plan = last_or [] (columns plan (types_of sources))

-- the reply to a plan: its columns, and the sources that it uses
abbrev pub planned_reply : List SourceState → List Step → Reply
planned_reply sources plan =
    reply.Planned (columns_of sources plan) (by_name sources (uses_of plan (types_of sources)))

-- of the first fault of a plan, and of the first step that doesn't fit the sources
abbrev pub planned_at : Option Fault → Option ℕ → State → PlanState → State × Reply
planned_at (Some fault) out state new = (state, reply.Refused (refusal.Plan fault.step fault.what))
planned_at None (Some step) state new = (state, reply.Refused (refusal.Range new.name step))
planned_at None None state new =
    (record state { plans = state.plans ++ new ∷ [] }, planned_reply state.sources new.plan)

-- the step of a plan that doesn't fit the sources, the first
abbrev pub misfit_on : List SourceState → List Step → Option ℕ
misfit_on sources plan = misfit plan (types_of sources) (family_of sources)

-- the state and the reply after a plan is declared: a name that is taken, then a plan too many, are refused first
abbrev pub planned_of : Option PlanState → State → PlanState → State × Reply
planned_of (Some other) state new = (state, reply.Refused (refusal.Exists thing.Plan new.name))
planned_of None state new =
    if nat_le max_plans (length state.plans) then (state, reply.Refused (refusal.Full thing.Plan))
    else planned_at (plan_fault_of new.plan (types_of state.sources)) (misfit_on state.sources new.plan) state new

unfoldable pub planned : State → PlanState → State × Reply
planned state new = planned_of (first_named plan_name new.name state.plans) state new

-- the plan of this name is taken out, and the others keep their order
abbrev pub dropped_of : Option PlanState → State → List ℕ → State × Reply
dropped_of None state name = (state, reply.Refused (refusal.Unknown thing.Plan name))
dropped_of (Some plan) state name =
    (record state { plans = remove state.plans (index_named plan_name name state.plans) }, reply.Done)

unfoldable pub dropped : State → List ℕ → State × Reply
dropped state name = dropped_of (first_named plan_name name state.plans) state name
