-- Rows spread over what items give.
use Rattle.std.specs.Prelude.{ℤ, List, [], ◌∷◌, pos, Some, None, codes, false}
use Rattle.ratios.specs.Ratio.{one_ratio}
use Rattle.record_text.specs.declared.atom.Atom.TheVariants.{Int}
use Rattle.record_text.specs.declared.kinds.Kind.TheVariants as kind
use Rattle.datasets.specs.Dataset.{Dataset, dataset_of}
use Rattle.plan_model.specs.declared.expr.Expr.{Expr}
use Rattle.plan_model.specs.declared.expr.Expr.TheVariants.{Const}
use Rattle.plan_model.specs.declared.source_types.SourceType.{SourceType}
use Rattle.plan_model.specs.declared.step.Item.{Item}
use Rattle.plan_model.specs.declared.step.Step.{Step}
use Rattle.plan_model.specs.Evaluation.{eval}
use Rattle.worked_plans.specs.Sources.{parity}
use Rattle.worked_plans.specs.Weights.{HasWeights, ints}

-- the rows 5 and 6, each of weight 1
abbrev pub S : Dataset
S = dataset_of ((ints (5 ∷ []), one_ratio) ∷ (ints (6 ∷ []), one_ratio) ∷ [])

abbrev pub s_types : List SourceType
s_types = record { name = codes "s"; kinds = kind.Int ∷ []; signed = false } ∷ []

-- the constant row of one Int
abbrev pub constant : ℤ → List Expr
constant n = Const (Int n) ∷ []

-- an item for all rows and one for odd rows give the row 0, each of weight 3, and one of weight 0 the row 1
abbrev pub items : List Item
items = record { weight = 3; guard = None; row = constant (pos 0) }
    ∷ record { weight = 3; guard = Some parity; row = constant (pos 0) }
    ∷ record { weight = 0; guard = None; row = constant (pos 1) } ∷ []

abbrev pub spread_over_four : List Step
spread_over_four = Step.Source (codes "s") ∷ Step.Many 0 4 items ∷ []

-- the row 5 gives 6/6 and the row 6 gives 3/4
abbrev pub ManyWeights : Type 0
ManyWeights = HasWeights (eval spread_over_four s_types (S ∷ [])) ((0 ∷ [], pos 7, 4) ∷ (1 ∷ [], pos 0, 1) ∷ [])
