-- What each step of a plan makes of the sources.
use Rattle.std.specs.Prelude.{ℕ, pos, ℤ, ◌+ℤ◌, Bool, true, not, if◌then◌else◌, List, [], ◌∷◌, ◌++◌, flat_map, fold, length, map, replicate, slice_index_or, Option, Some, None, option_map}
use Rattle.std.specs.Option.{unwrap_or}
use Rattle.std.specs.Ordering.{int_eq, is_lt}
use Rattle.ratios.specs.Ratio.{Ratio, ratio_add, ratio_max, ratio_min, ratio_sub}
use Rattle.record_text.specs.declared.atom.Atom.{Atom}
use Rattle.record_text.specs.declared.atom.Atom.TheVariants.{Int, Text}
use Rattle.record_text.specs.Order.{atom_cmp}
use Rattle.datasets.specs.Dataset.{Dataset, empty}
use Rattle.datasets.specs.Entries.{Row}
pub use Rattle.datasets.specs.Families.{Family, dataset_at}
use Rattle.prim_table.specs.Primitives.{clamped}
use Rattle.operators.specs.Operators.{Giving, filtered, grouped, joined, pointwise, selected, shaved, spread}
use Rattle.plan_model.specs.declared.expr.Expr.{Expr}
use Rattle.plan_model.specs.declared.step.Item.{Item}
use Rattle.plan_model.specs.declared.step.Reducer.{Reducer}
use Rattle.plan_model.specs.declared.step.Run.{Run}
use Rattle.plan_model.specs.declared.step.SetKind.{SetKind}
use Rattle.plan_model.specs.declared.step.Step.{Step}
use Rattle.plan_model.specs.declared.source_types.SourceType.{SourceType}
use Rattle.plan_model.specs.Inputs.{of_left, of_right}
use Rattle.plan_model.specs.Sources.{place_of}
use Rattle.plan_model.specs.Values.{term_of, value_if}

-- ---- the functions of rows that a step's parts stand for

-- the value of an expression on a row over whose kinds it has a kind
abbrev pub value : Expr → Row → Atom
value e x = unwrap_or (value_if (term_of e) x) (Int (pos 0))

-- the row of the values of expressions
abbrev pub row_of : List Expr → Row → Row
row_of es x = map (λ e. value e x) es

-- any atom but the Int 0
abbrev pub is_true_atom : Atom → Bool
is_true_atom (Int a) = not (int_eq a (pos 0))
is_true_atom (Text t) = true

-- the test isn't 0 on the row
abbrev pub passes : Expr → Row → Bool
passes test x = is_true_atom (value test x)

-- an item without a guard applies to every row
abbrev pub guarded : Option Expr → Row → Bool
guarded None x = true
guarded (Some test) x = passes test x

-- the items of a step, as functions of rows
abbrev pub giving : List Item → List Giving
giving items = map (λ i. record { weight = i.weight; applies = guarded i.guard; row = row_of i.row }) items

-- the pieces of a step: its runs written out
abbrev pub pieces : List Run → List Ratio
pieces runs = flat_map (λ run. replicate run.times run.weight) runs

-- what a set operator does with the two weights of a row
abbrev pub set_weight : SetKind → Ratio → Ratio → Ratio
set_weight SetKind.Union = ratio_max
set_weight SetKind.Intersect = ratio_min
set_weight SetKind.Concat = λ q r. ratio_add q r
set_weight SetKind.Except = λ q r. ratio_sub q r

-- ---- reducers

-- the atom of a column
abbrev pub column : ℕ → Row → Atom
column c x = slice_index_or x c (Int (pos 0))

-- the first of atoms, which are not none, that no other comes before
abbrev pub least : List Atom → Atom
least [] = Int (pos 0)
least (a ∷ as') = fold (λ b c. if is_lt (atom_cmp c b) then c else b) a as'

-- the first of atoms, which are not none, that comes before no other
abbrev pub greatest : List Atom → Atom
greatest [] = Int (pos 0)
greatest (a ∷ as') = fold (λ b c. if is_lt (atom_cmp b c) then c else b) a as'

-- the number that an Int atom is
abbrev pub number_in : Atom → ℤ
number_in (Int a) = a
number_in (Text t) = pos 0

-- the sum of Int atoms
abbrev pub total : List Atom → ℤ
total atoms = fold (λ sum a. sum +ℤ number_in a) (pos 0) atoms

-- what a reducer makes of a set of rows: their number, the least or the greatest atom of a column, or its
-- sum, the numbers clamped to those of an Int
abbrev pub reduced_to : Reducer → List Row → Atom
reduced_to Reducer.Count xs = Int (clamped (pos (length xs)))
reduced_to (Reducer.Min c) xs = least (map (column c) xs)
reduced_to (Reducer.Max c) xs = greatest (map (column c) xs)
reduced_to (Reducer.Sum c) xs = Int (clamped (total (map (column c) xs)))

-- ---- steps

-- what f makes of each step and of what it made of the steps before, in the order of the steps
abbrev pub step_by_step_after : {X : Type 0} → (Step → List X → X) → List X → List Step → List X
step_by_step_after f made [] = made
step_by_step_after f made (s ∷ ss) = step_by_step_after f (made ++ f s made ∷ []) ss

abbrev pub step_by_step : {X : Type 0} → (Step → List X → X) → List Step → List X
step_by_step f steps = step_by_step_after f [] steps

-- what the operator of a step makes of its left and its right input; a source's rows stay as they are, and an
-- operator of one input doesn't look at the right
abbrev pub operator_of : Step → Dataset → Dataset → Dataset
operator_of (Step.Source name) A B = A
operator_of (Step.Filter of test) A B = filtered (passes test) A
operator_of (Step.Select of row) A B = selected (row_of row) A
operator_of (Step.Many of over items) A B = spread over (giving items) A
operator_of (Step.Shave of runs) A B = shaved (pieces runs) A
operator_of (Step.Set kind left right) A B = pointwise (set_weight kind) A B
operator_of (Step.Join left right left_key right_key) A B = joined (row_of left_key) (row_of right_key) A B
operator_of (Step.Group of key reduce) A B = grouped (row_of key) (reduced_to reduce) A

-- the dataset of the source of a name, empty where there is none
abbrev pub source_dataset : List SourceType → Family → List ℕ → Dataset
source_dataset types F name = unwrap_or (option_map (dataset_at F) (place_of name types)) empty

-- the left input: a source's dataset at its step, else that of the step named first; As are those of the steps
abbrev pub left_dataset : List SourceType → Family → List Dataset → Step → Dataset
left_dataset types F As (Step.Source name) = source_dataset types F name
left_dataset types F As s = of_left empty As s

-- the right input, empty where there is none
abbrev pub right_dataset : List Dataset → Step → Dataset
right_dataset As s = of_right empty As s

-- the dataset of a step: its operator on its inputs
abbrev pub eval_step : List SourceType → Family → Step → List Dataset → Dataset
eval_step types F s As = operator_of s (left_dataset types F As s) (right_dataset As s)

-- the datasets of all steps
abbrev pub evals : List Step → List SourceType → Family → List Dataset
evals p types F = step_by_step (eval_step types F) p

-- the dataset of the step i
abbrev pub eval_at : List Step → List SourceType → Family → ℕ → Dataset
eval_at p types F i = dataset_at (evals p types F) i

-- the last of a list, or what stands for it where the list is empty
abbrev pub last_or : {X : Type 0} → X → List X → X
last_or d [] = d
last_or d (x ∷ xs) = last_or x xs

-- the dataset of a plan: that of its last step
abbrev pub eval : List Step → List SourceType → Family → Dataset
eval p types F = last_or empty (evals p types F)
