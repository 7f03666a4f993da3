-- Values on the way that are out of range, where all inputs and outputs are in range.
use Rattle.std.specs.Prelude.{◌≡◌, ℕ, ◌*◌, ◌^◌, pos, negsuc, ◌-◌, true, List, [], ◌∷◌, Some, None}
use Rattle.ratios.specs.Ratio.{ratio}
use Rattle.record_text.specs.declared.atom.Atom.TheVariants.{Int}
use Rattle.datasets.specs.Dataset.{Dataset, dataset_of}
use Rattle.operators.specs.InRange.{weights_in_range}
use Rattle.plan_model.specs.declared.expr.Expr.{Expr}
use Rattle.plan_model.specs.declared.expr.Expr.TheVariants.{Const}
use Rattle.plan_model.specs.declared.step.Item.{Item}
use Rattle.plan_model.specs.declared.step.Reducer.{Reducer}
use Rattle.plan_model.specs.declared.step.Step.{Step}
use Rattle.plan_model.specs.Evaluation.{Family, eval}
use Rattle.plan_model.specs.Fits.{misfit}
use Rattle.worked_plans.specs.Sources.{a, b, over, types}
use Rattle.worked_plans.specs.Weights.{ints}

-- the row 0 for every row
abbrev pub nought : List Expr
nought = Const (Int (pos 0)) ∷ []

-- one row of this weight in the source a, and nothing in b
abbrev pub weighing : ℕ → ℕ → Family
weighing n d = dataset_of ((ints (1 ∷ []), over n d) ∷ []) ∷ dataset_of [] ∷ []

-- the step i doesn't fit, although the plan's output is in range
abbrev pub MisfitInside : List Step → Family → ℕ → Type 0
MisfitInside p F i = (misfit p types F ≡ Some i) × (weights_in_range (eval p types F) ≡ true)

-- ---- Shave: what is left before a piece

abbrev pub quarters : ℕ → List Step
quarters times = a ∷ Step.Shave 0 (record { weight = over 1 4; times = times } ∷ []) ∷ []

-- 2 ^ 61 less a quarter is out of range: at the second piece, and not with one piece alone
abbrev pub ShaveMisfit : Type 0
ShaveMisfit = MisfitInside (quarters 2) (weighing (2 ^ 61) 1) 1 × (misfit (quarters 1) types (weighing (2 ^ 61) 1) ≡ None)

-- ---- Select: a running sum

-- three rows become one: its sum is 2 ^ 61, but that of the first two is 2 ^ 62
abbrev pub rising_and_falling : Dataset
rising_and_falling = dataset_of ((ints (1 ∷ []), over (2 ^ 61) 1) ∷ (ints (2 ∷ []), over (2 ^ 61) 1) ∷ (ints (3 ∷ []), ratio (negsuc (2 ^ 61 - 1)) (pos 1)) ∷ [])

abbrev pub SelectMisfit : Type 0
SelectMisfit = MisfitInside (a ∷ Step.Select 0 nought ∷ []) (rising_and_falling ∷ dataset_of [] ∷ []) 1

-- ---- Many: a product

-- two rows give a third of their weights to one row: the second third is 1 / (3 * 2 ^ 61), and their sum 1 / 2 ^ 61
abbrev pub small_weights : Dataset
small_weights = dataset_of ((ints (1 ∷ []), over 1 (2 ^ 60)) ∷ (ints (2 ∷ []), over 1 (2 ^ 61)) ∷ [])

abbrev pub thirds : List Item
thirds = record { weight = 1; guard = None; row = nought } ∷ []

abbrev pub ManyMisfit : Type 0
ManyMisfit = MisfitInside (a ∷ Step.Many 0 3 thirds ∷ []) (small_weights ∷ dataset_of [] ∷ []) 1

-- ---- Group: half a gap

-- the gaps are 1 / (3 * 2 ^ 59) and 1 / (3 * 2 ^ 60): half of the second is out of range, and half of both is 1 / 2 ^ 61
abbrev pub two_levels : Dataset
two_levels = dataset_of ((ints (1 ∷ []), over 1 (2 ^ 60)) ∷ (ints (2 ∷ []), over 1 (3 * 2 ^ 60)) ∷ [])

abbrev pub GroupMisfit : Type 0
GroupMisfit = MisfitInside (a ∷ Step.Group 0 nought (Reducer.Min 0) ∷ []) (two_levels ∷ dataset_of [] ∷ []) 1

-- ---- Join: the sum of both norms

-- the row 1 with the weight 2 ^ 61
abbrev pub heavy : Dataset
heavy = dataset_of ((ints (1 ∷ []), over (2 ^ 61) 1) ∷ [])

-- each norm is 2 ^ 61, and the pair weighs 2 ^ 60
abbrev pub JoinMisfit : Type 0
JoinMisfit = MisfitInside (a ∷ b ∷ Step.Join 0 1 nought nought ∷ []) (heavy ∷ heavy ∷ []) 2
