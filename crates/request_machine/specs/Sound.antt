-- What holds of every state.
use Rattle.std.specs.Prelude.{◌≡◌, ◌≢◌, ◌≤◌, ◌⊎◌, Bool, true, All, IsTrue, List, None, length, map}
use Rattle.std.specs.List.{IsDistinct}
use Rattle.ratios.specs.Ratio.{zero_ratio, ◌≼◌}
use Rattle.ratios.specs.Range.{InRange}
use Rattle.record_text.specs.KindLists.{kinds_of}
use Rattle.record_text.specs.Names.{name_eq}
use Rattle.record_text.specs.declared.kinds.Kind.{Kind}
use Rattle.datasets.specs.Entries.{Row}
use Rattle.datasets.specs.Dataset.{Dataset, at}
use Rattle.plan_model.specs.Acceptance.{Accepts}
use Rattle.plan_model.specs.Fits.{misfit}
use Rattle.plan_model.specs.Limits.{is_plan}
use Rattle.request_machine.specs.Limits.{max_budget, max_plans, max_sources}
use Rattle.request_machine.specs.Named.{plan_name, source_name}
use Rattle.request_machine.specs.State.{PlanState, SourceState, State, family_of, types_of}

-- each row that weighs something has the declared kinds, and no weight is below 0 unless that is declared
pub record KeepsType (kinds : List Kind) (signed : Bool) (A : Dataset) : Type 0 where
  pub kinds_kept : (row : Row) → at A row ≢ zero_ratio → kinds_of row ≡ kinds
  pub sign_kept : (signed ≡ true) ⊎ ((row : Row) → zero_ratio ≼ at A row)

-- the rows keep the source's type and have weights in range, and no more is spent than there is
pub record IsSoundSource (source : SourceState) : Type 0 where
  pub typed : KeepsType source.kinds source.signed source.rows
  pub in_range : (row : Row) → InRange (at source.rows row)
  pub spent_within : source.spent ≤ source.total
  pub total_within : source.total ≤ max_budget

-- the plan is one that can be read, is accepted for the sources and fits them
pub record IsSoundPlan (sources : List SourceState) (plan : PlanState) : Type 0 where
  pub limits : IsTrue (is_plan plan.plan)
  pub accepted : Accepts plan.plan (types_of sources)
  pub fits : misfit plan.plan (types_of sources) (family_of sources) ≡ None

-- at most 16 sources and 32 plans, of distinct names in each list, each of them sound
pub record Sound (state : State) : Type 0 where
  pub few : length state.sources ≤ max_sources
  pub few_plans : length state.plans ≤ max_plans
  pub distinct : IsDistinct name_eq (map source_name state.sources)
  pub distinct_plans : IsDistinct name_eq (map plan_name state.plans)
  pub all_sound : All IsSoundSource state.sources
  pub all_plans : All (IsSoundPlan state.sources) state.plans
