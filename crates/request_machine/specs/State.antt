-- What the request machine keeps between two lines.
use Rattle.std.specs.Prelude.{◌≡◌, ℕ, Bool, List, [], Some, map, slice_get}
use Rattle.record_text.specs.declared.kinds.Kind.{Kind}
use Rattle.datasets.specs.Dataset.{Dataset, empty}
use Rattle.plan_model.specs.Evaluation.{Family}
use Rattle.plan_model.specs.declared.source_types.SourceType.{SourceType}
use Rattle.plan_model.specs.declared.step.Step.{Step}

-- a source: its name and type, its budget and what is spent of it in millionths of epsilon, and its weighted rows
pub record SourceState : Type 0 where
  pub name : List ℕ
  pub kinds : List Kind
  pub signed : Bool
  pub total : ℕ
  pub spent : ℕ
  pub rows : Dataset

-- a plan under its name
pub record PlanState : Type 0 where
  pub name : List ℕ
  pub plan : List Step

-- whether exact answers are open, and the sources and the plans in the order of their declaration
pub record State : Type 0 where
  pub curator : Bool
  pub sources : List SourceState
  pub plans : List PlanState

-- no sources and no plans
abbrev pub start_state : Bool → State
start_state curator = record { curator = curator; sources = []; plans = [] }

-- a source as it is declared
abbrev pub new_source : List ℕ → List Kind → Bool → ℕ → SourceState
new_source name kinds signed total =
    record { name = name; kinds = kinds; signed = signed; total = total; spent = 0; rows = empty }

-- a source of this type as it is declared
abbrev pub new_of_type : SourceType → ℕ → SourceState
new_of_type source_type total = new_source source_type.name source_type.kinds source_type.signed total

-- what holds of the source at a place
abbrev pub OfSource : List SourceState → ℕ → (SourceState → Type 0) → Type 0
OfSource sources at P = (source : SourceState) → slice_get sources at ≡ Some source → P source

-- a plan under a name
abbrev pub new_plan : List ℕ → List Step → PlanState
new_plan name plan = record { name = name; plan = plan }

-- the type that plans see of a source
abbrev pub type_of : SourceState → SourceType
type_of source = record { name = source.name; kinds = source.kinds; signed = source.signed }

-- the types of sources
abbrev pub types_of : List SourceState → List SourceType
types_of sources = map type_of sources

-- the datasets of sources
abbrev pub family_of : List SourceState → Family
family_of sources = map (λ (source : SourceState). source.rows) sources
