-- Paths of two edges in a triangle: a join of a source with itself, under a filter.
use Rattle.std.specs.Prelude.{◌≡◌, ℕ, List, [], ◌∷◌, map, pos, codes, false}
use Rattle.ratios.specs.Ratio.{one_ratio}
use Rattle.record_text.specs.declared.kinds.Kind.TheVariants as kind
use Rattle.datasets.specs.Dataset.{Dataset, dataset_of}
use Rattle.plan_model.specs.declared.expr.Expr.TheVariants.{Col, Two}
use Rattle.plan_model.specs.declared.source_types.SourceType.{SourceType}
use Rattle.plan_model.specs.declared.step.Step.{Step}
use Rattle.plan_model.specs.Evaluation.{eval}
use Rattle.plan_model.specs.Uses.{uses}
use Rattle.worked_plans.specs.Weights.{HasWeights, Weight, ints}

-- a source e of edges, from the first column to the second
abbrev pub edge_types : List SourceType
edge_types = record { name = codes "e"; kinds = kind.Int ∷ kind.Int ∷ []; signed = false } ∷ []

-- edges, each of weight 1
abbrev pub edges : List (List ℕ) → Dataset
edges es = dataset_of (map (λ e. (ints e, one_ratio)) es)

-- edges that meet, without those that lead back at once
abbrev pub paths : List Step
paths = Step.Source (codes "e") ∷ Step.Join 0 0 (Col 1 ∷ []) (Col 0 ∷ []) ∷ Step.Filter 1 (Two 8 (Col 0) (Col 3)) ∷ []

-- the paths over these edges have these weights
abbrev pub PathWeights : List (List ℕ) → List Weight → Type 0
PathWeights es ws = HasWeights (eval paths edge_types (edges es ∷ [])) ws

-- both directions of the triangle 1, 2, 3
abbrev pub triangle : List (List ℕ)
triangle = (1 ∷ 2 ∷ []) ∷ (1 ∷ 3 ∷ []) ∷ (2 ∷ 1 ∷ []) ∷ (2 ∷ 3 ∷ []) ∷ (3 ∷ 1 ∷ []) ∷ (3 ∷ 2 ∷ []) ∷ []

-- each of the six paths weighs 1/4
abbrev pub triangle_weights : List Weight
triangle_weights = (1 ∷ 2 ∷ 2 ∷ 3 ∷ [], pos 1, 4) ∷ (1 ∷ 3 ∷ 3 ∷ 2 ∷ [], pos 1, 4) ∷ (2 ∷ 1 ∷ 1 ∷ 3 ∷ [], pos 1, 4)
    ∷ (2 ∷ 3 ∷ 3 ∷ 1 ∷ [], pos 1, 4) ∷ (3 ∷ 1 ∷ 1 ∷ 2 ∷ [], pos 1, 4) ∷ (3 ∷ 2 ∷ 2 ∷ 1 ∷ [], pos 1, 4) ∷ []

-- without the edge between 1 and 3
abbrev pub line : List (List ℕ)
line = (1 ∷ 2 ∷ []) ∷ (2 ∷ 1 ∷ []) ∷ (2 ∷ 3 ∷ []) ∷ (3 ∷ 2 ∷ []) ∷ []

abbrev pub line_weights : List Weight
line_weights = (1 ∷ 2 ∷ 2 ∷ 3 ∷ [], pos 1, 4) ∷ (3 ∷ 2 ∷ 2 ∷ 1 ∷ [], pos 1, 4) ∷ (2 ∷ 1 ∷ 1 ∷ 3 ∷ [], pos 0, 1) ∷ []

-- without the edge from 1 to 3 alone
abbrev pub one_way : List (List ℕ)
one_way = (1 ∷ 2 ∷ []) ∷ (2 ∷ 1 ∷ []) ∷ (2 ∷ 3 ∷ []) ∷ (3 ∷ 1 ∷ []) ∷ (3 ∷ 2 ∷ []) ∷ []

-- at the key 3 the left norm is 1 and the right norm 2
abbrev pub one_way_weights : List Weight
one_way_weights = (2 ∷ 3 ∷ 3 ∷ 1 ∷ [], pos 1, 3) ∷ (1 ∷ 3 ∷ 3 ∷ 2 ∷ [], pos 0, 1) ∷ []

-- the source is used twice
abbrev pub PathUses : Type 0
PathUses = uses paths edge_types 0 ≡ 2
