-- The sources with what is pending in them.
use Rattle.std.specs.Prelude.{◌≡◌, ℕ, All, List, [], ◌∷◌, length, map}
use Rattle.datasets.specs.Dataset.{Dataset}
use Rattle.plan_model.specs.declared.source_types.SourceType.{SourceType}
use Rattle.weighted_set.specs.Held.{HeldDatasets}
use Rattle.session_data.specs.Flow.{committed_family, pending_family}
use Rattle.request_machine.specs.Sound.{IsSoundSource}
use Rattle.request_machine.specs.State.{SourceState, types_of}
use Rattle.budget_book.specs.declared.budget.Budget.{Budget}

-- the sources as they are, and as they are once what is pending is committed
pub record HeldSources : Type 0 where
  pub committed : List SourceState
  pub pending : List SourceState

-- a source of this type, dataset and budget
abbrev pub source_of : SourceType → Dataset → Budget → SourceState
source_of t A b =
    record { name = t.name; kinds = t.kinds; signed = t.signed; total = b.total; spent = b.spent; rows = A }

-- sources, from lists of their types, datasets and budgets
abbrev pub sources_of : List SourceType → List Dataset → List Budget → List SourceState
sources_of [] As bs = []
sources_of (t ∷ types) [] bs = []
sources_of (t ∷ types) (A ∷ As) [] = []
sources_of (t ∷ types) (A ∷ As) (b ∷ bs) = source_of t A b ∷ sources_of types As bs

-- what these lists hold
abbrev pub held_sources : List SourceType → List HeldDatasets → List Budget → HeldSources
held_sources types sets budgets = record {
  committed = sources_of types (committed_family sets) budgets;
  pending = sources_of types (pending_family sets) budgets;
}

-- a type, a set and a budget for each name
pub record AreAlike (ns : List (List ℕ)) (types : List SourceType) (hs : List HeldDatasets) (bs : List Budget) : Type 0 where
  pub names : ns ≡ map (λ (t : SourceType). t.name) types
  pub sets : length hs ≡ length types
  pub budgets : length bs ≡ length types

-- sources that are of the same types, and sound
pub record IsTurn (old new : List SourceState) : Type 0 where
  pub types : types_of new ≡ types_of old
  pub sound : All IsSoundSource new
