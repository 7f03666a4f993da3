-- Two small sources, and a key.
use Rattle.std.specs.Prelude.{ℕ, pos, codes, List, [], ◌∷◌, false}
use Rattle.ratios.specs.Ratio.{Ratio, ratio}
use Rattle.record_text.specs.declared.atom.Atom.TheVariants.{Int}
use Rattle.record_text.specs.declared.kinds.Kind.TheVariants as kind
use Rattle.datasets.specs.Dataset.{Dataset, add_at, dataset_of}
use Rattle.plan_model.specs.declared.expr.Expr.{Expr}
use Rattle.plan_model.specs.declared.expr.Expr.TheVariants.{Col, Const, Two}
use Rattle.plan_model.specs.declared.source_types.SourceType.{SourceType}
use Rattle.plan_model.specs.declared.step.Step.{Step}
use Rattle.plan_model.specs.Evaluation.{Family}
use Rattle.worked_plans.specs.Weights.{ints}

-- the ratio of two whole numbers
abbrev pub over : ℕ → ℕ → Ratio
over n d = ratio (pos n) (pos d)

-- the rows 1, 2 and 3 with the weights 3/4, 2 and 1
abbrev pub A : Dataset
A = dataset_of ((ints (1 ∷ []), over 3 4) ∷ (ints (2 ∷ []), over 2 1) ∷ (ints (3 ∷ []), over 1 1) ∷ [])

-- the rows 1 and 4 with the weights 3 and 2
abbrev pub B : Dataset
B = dataset_of ((ints (1 ∷ []), over 3 1) ∷ (ints (4 ∷ []), over 2 1) ∷ [])

-- A, where the row 1 has 1/4 more
abbrev pub A_with_a_quarter : Dataset
A_with_a_quarter = add_at (ints (1 ∷ [])) (over 1 4) A

-- the sources a and b, each of one column of Ints
abbrev pub types : List SourceType
types = record { name = codes "a"; kinds = kind.Int ∷ []; signed = false } ∷ record { name = codes "b"; kinds = kind.Int ∷ []; signed = false } ∷ []

abbrev pub a : Step
a = Step.Source (codes "a")

abbrev pub b : Step
b = Step.Source (codes "b")

-- the family of A and B
abbrev pub both : Family
both = A ∷ B ∷ []

-- the first column modulo 2
abbrev pub parity : Expr
parity = Two 4 (Col 0) (Const (Int (pos 2)))
