-- The weights, computed. An expression is handed over as its term, which definitions go through.
use Rattle.std.specs.Prelude.{◌≡◌, ℕ, pos, List, [], ◌∷◌, unwrap_or, true}
use Rattle.std.proofs.Common.{refl, ap₂, ◌∙◌, sym, subst}
use Rattle.ratios.specs.Gcd.{gcd, gcd_within}
use Rattle.ratios.specs.Ratio.{one_ratio, ratio, reduced, zero_ratio}
use Rattle.record_text.specs.declared.atom.Atom.{Atom}
use Rattle.record_text.specs.declared.atom.Atom.TheVariants.{Int}
use Rattle.datasets.specs.Dataset.{Dataset, dataset_of, empty, set_at}
use Rattle.datasets.specs.Entries.{Row}
use Rattle.operators.specs.Operators.{Giving, filtered, grouped, joined, spread}
use Rattle.plan_model.specs.Evaluation.{is_true_atom, reduced_to}
use Rattle.plan_model.specs.Values.{Term, two, col, const, term_of, value_if}
use Rattle.plan_model.specs.declared.expr.Expr.TheVariants.{Col, Const}
use Rattle.plan_model.specs.declared.step.Reducer.{Reducer}
use Rattle.worked_plans.specs.Groups.{GroupWeights, GroupWeightsAfter}
use Rattle.worked_plans.specs.Items.{ManyWeights, S}
use Rattle.worked_plans.specs.Joins.{JoinWeights}
use Rattle.worked_plans.specs.Paths.{PathWeights, edges, line, line_weights, one_way, one_way_weights, triangle, triangle_weights}
use Rattle.worked_plans.specs.Pieces.{ShaveWeights}
use Rattle.worked_plans.specs.Sets.{SetWeights}
use Rattle.worked_plans.specs.Sources.{A, A_with_a_quarter, B, parity}
use Rattle.worked_plans.specs.Weights.{HasWeights, Weight}
use Rattle.plan_model.proofs.Terms.{term_of-Col, term_of-Const, term_of-Two}

-- ---- terms

abbrev pub parity_term : Term
parity_term = two 4 (col 0) (const (Int (pos 2)))

pub parity_is : term_of parity ≡ parity_term
parity_is = term_of-Two 4 (Col 0) (Const (Int (pos 2))) ∙ ap₂ (two 4) (term_of-Col 0) (term_of-Const (Int (pos 2)))

-- the value of a term on a row over whose kinds it has a kind
abbrev pub value_of : Term → Row → Atom
value_of t x = unwrap_or (value_if t x) (Int (pos 0))

-- the row of one value
abbrev pub key : Term → Row → Row
key t x = value_of t x ∷ []

-- ---- Join

abbrev JoinWeightsBy : Term → Type 0
JoinWeightsBy t = HasWeights (joined (key t) (key t) A B)
    ((1 ∷ 1 ∷ [], pos 9, 19) ∷ (3 ∷ 1 ∷ [], pos 12, 19) ∷ (2 ∷ 4 ∷ [], pos 1, 1) ∷ (1 ∷ 4 ∷ [], pos 0, 1) ∷ [])

join_weights_by : JoinWeightsBy parity_term
unfolding dataset_of empty set_at ratio reduced zero_ratio gcd gcd_within
join_weights_by = ((refl, refl), ((refl, refl), ((refl, refl), ((refl, refl), tt))))

pub join_weights : JoinWeights
join_weights = subst JoinWeightsBy (sym parity_is) join_weights_by

-- ---- Group

abbrev GroupWeightsBy : Dataset → List Weight → Term → Type 0
GroupWeightsBy D ws t = HasWeights (grouped (key t) (reduced_to Reducer.Count) D) ws

group_weights_by : GroupWeightsBy A ((0 ∷ 1 ∷ [], pos 1, 1) ∷ (1 ∷ 1 ∷ [], pos 1, 8) ∷ (1 ∷ 2 ∷ [], pos 3, 8) ∷ []) parity_term
unfolding dataset_of empty set_at ratio reduced zero_ratio gcd gcd_within
group_weights_by = ((refl, refl), ((refl, refl), ((refl, refl), tt)))

pub group_weights : GroupWeights
group_weights = subst (GroupWeightsBy A ((0 ∷ 1 ∷ [], pos 1, 1) ∷ (1 ∷ 1 ∷ [], pos 1, 8) ∷ (1 ∷ 2 ∷ [], pos 3, 8) ∷ [])) (sym parity_is) group_weights_by

group_weights_after_by : GroupWeightsBy A_with_a_quarter ((0 ∷ 1 ∷ [], pos 1, 1) ∷ (1 ∷ 1 ∷ [], pos 0, 1) ∷ (1 ∷ 2 ∷ [], pos 1, 2) ∷ []) parity_term
unfolding dataset_of empty set_at ratio reduced zero_ratio gcd gcd_within
group_weights_after_by = ((refl, refl), ((refl, refl), ((refl, refl), tt)))

pub group_weights_after : GroupWeightsAfter
group_weights_after =
    subst (GroupWeightsBy A_with_a_quarter ((0 ∷ 1 ∷ [], pos 1, 1) ∷ (1 ∷ 1 ∷ [], pos 0, 1) ∷ (1 ∷ 2 ∷ [], pos 1, 2) ∷ [])) (sym parity_is) group_weights_after_by

-- ---- Shave and the set operators

pub shave_weights : ShaveWeights
unfolding dataset_of empty set_at ratio reduced zero_ratio gcd gcd_within
shave_weights = ((refl, refl), ((refl, refl), ((refl, refl), ((refl, refl), ((refl, refl), ((refl, refl), tt))))))

pub set_weights : SetWeights
unfolding dataset_of empty set_at ratio reduced zero_ratio gcd gcd_within
set_weights = (((refl, refl), tt), ((refl, refl), tt), ((refl, refl), tt), ((refl, refl), tt))

-- ---- Paths: a join and a filter

abbrev PathWeightsBy : List (List ℕ) → List Weight → Term → Term → Term → Type 0
PathWeightsBy es ws left right test = HasWeights (filtered (λ x. is_true_atom (value_of test x)) (joined (key left) (key right) (edges es) (edges es))) ws

path_weights : (es : List (List ℕ)) (ws : List Weight) → PathWeightsBy es ws (col 1) (col 0) (two 8 (col 0) (col 3)) → PathWeights es ws
path_weights es ws h =
    subst (PathWeightsBy es ws (term_of (Col 1)) (term_of (Col 0))) (sym (term_of-Two 8 (Col 0) (Col 3) ∙ ap₂ (two 8) (term_of-Col 0) (term_of-Col 3)))
    (subst (λ left. PathWeightsBy es ws left (term_of (Col 0)) (two 8 (col 0) (col 3))) (sym (term_of-Col 1))
    (subst (λ right. PathWeightsBy es ws (col 1) right (two 8 (col 0) (col 3))) (sym (term_of-Col 0)) h))

pub triangle_paths : PathWeights triangle triangle_weights
unfolding dataset_of empty set_at one_ratio ratio reduced zero_ratio gcd gcd_within
triangle_paths = path_weights triangle triangle_weights ((refl, refl), ((refl, refl), ((refl, refl), ((refl, refl), ((refl, refl), ((refl, refl), tt))))))

pub line_paths : PathWeights line line_weights
unfolding dataset_of empty set_at one_ratio ratio reduced zero_ratio gcd gcd_within
line_paths = path_weights line line_weights ((refl, refl), ((refl, refl), ((refl, refl), tt)))

pub one_way_paths : PathWeights one_way one_way_weights
unfolding dataset_of empty set_at one_ratio ratio reduced zero_ratio gcd gcd_within
one_way_paths = path_weights one_way one_way_weights ((refl, refl), ((refl, refl), tt))

-- ---- Many

abbrev items_by : Term → Term → Term → List Giving
items_by test first second =
    record { weight = 3; applies = λ x. true; row = key first }
    ∷ record { weight = 3; applies = λ x. is_true_atom (value_of test x); row = key first }
    ∷ record { weight = 0; applies = λ x. true; row = key second } ∷ []

abbrev ManyWeightsBy : Term → Term → Term → Type 0
ManyWeightsBy test first second = HasWeights (spread 4 (items_by test first second) S) ((0 ∷ [], pos 7, 4) ∷ (1 ∷ [], pos 0, 1) ∷ [])

many_weights_by : ManyWeightsBy parity_term (const (Int (pos 0))) (const (Int (pos 1)))
unfolding dataset_of empty set_at one_ratio ratio reduced zero_ratio gcd gcd_within
many_weights_by = ((refl, refl), ((refl, refl), tt))

pub many_weights : ManyWeights
many_weights =
    subst (λ test. ManyWeightsBy test (term_of (Const (Int (pos 0)))) (term_of (Const (Int (pos 1))))) (sym parity_is)
    (subst (λ first. ManyWeightsBy parity_term first (term_of (Const (Int (pos 1))))) (sym (term_of-Const (Int (pos 0))))
    (subst (λ second. ManyWeightsBy parity_term (const (Int (pos 0))) second) (sym (term_of-Const (Int (pos 1)))) many_weights_by))
