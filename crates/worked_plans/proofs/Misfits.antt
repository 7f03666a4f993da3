-- The misfits, computed. A constant is handed over as its term, which definitions go through.
use Rattle.std.specs.Prelude.{◌≡◌, ◌&&◌, Bool, true, not, List, [], ◌∷◌, ◌++◌, Some, ℕ, pos}
use Rattle.std.specs.List.{position}
use Rattle.std.proofs.Common.{refl, sym, subst}
use Rattle.ratios.specs.Gcd.{gcd, gcd_within}
use Rattle.ratios.specs.Range.{in_range}
use Rattle.ratios.specs.Ratio.{one_ratio, ratio, reduced, zero_ratio}
use Rattle.record_text.specs.declared.atom.Atom.TheVariants.{Int}
use Rattle.datasets.specs.Dataset.{Dataset, dataset_of, empty, set_at}
use Rattle.operators.specs.InRange.{group_in_range, join_in_range, many_in_range, select_in_range, weights_in_range}
use Rattle.operators.specs.Operators.{Giving, grouped, joined, selected, spread}
use Rattle.plan_model.specs.Evaluation.{reduced_to}
use Rattle.plan_model.specs.Values.{Term, const, term_of}
use Rattle.plan_model.specs.declared.expr.Expr.TheVariants.{Const}
use Rattle.plan_model.specs.declared.step.Reducer.{Reducer}
use Rattle.plan_model.proofs.Terms.{term_of-Const}
use Rattle.worked_plans.specs.Misfits.{GroupMisfit, JoinMisfit, ManyMisfit, SelectMisfit, ShaveMisfit, heavy, rising_and_falling, small_weights, two_levels}
use Rattle.worked_plans.proofs.Computed.{key}

abbrev nought_is : term_of (Const (Int (pos 0))) ≡ const (Int (pos 0))
nought_is = term_of-Const (Int (pos 0))

-- the step i is the first that doesn't fit, by what the steps before and the last one are tested for, and its output
-- is in range
abbrev MisfitInsideBy : List Bool → Bool → Dataset → ℕ → Type 0
MisfitInsideBy before inside A i = (position not (before ++ (inside && weights_in_range A) ∷ []) ≡ Some i) × (weights_in_range A ≡ true)

pub shave_misfit : ShaveMisfit
unfolding dataset_of empty set_at in_range ratio reduced zero_ratio one_ratio gcd gcd_within
shave_misfit = ((refl, refl), refl)

abbrev SelectMisfitBy : Term → Type 0
SelectMisfitBy t = MisfitInsideBy (weights_in_range rising_and_falling ∷ []) (select_in_range (key t) rising_and_falling) (selected (key t) rising_and_falling) 1

select_misfit_by : SelectMisfitBy (const (Int (pos 0)))
unfolding dataset_of empty set_at in_range ratio reduced zero_ratio one_ratio gcd gcd_within
select_misfit_by = (refl, refl)

pub select_misfit : SelectMisfit
select_misfit = subst SelectMisfitBy (sym nought_is) select_misfit_by

abbrev thirds_by : Term → List Giving
thirds_by t = record { weight = 1; applies = λ x. true; row = key t } ∷ []

abbrev ManyMisfitBy : Term → Type 0
ManyMisfitBy t = MisfitInsideBy (weights_in_range small_weights ∷ []) (many_in_range 3 (thirds_by t) small_weights) (spread 3 (thirds_by t) small_weights) 1

many_misfit_by : ManyMisfitBy (const (Int (pos 0)))
unfolding dataset_of empty set_at in_range ratio reduced zero_ratio one_ratio gcd gcd_within
many_misfit_by = (refl, refl)

pub many_misfit : ManyMisfit
many_misfit = subst ManyMisfitBy (sym nought_is) many_misfit_by

abbrev GroupMisfitBy : Term → Type 0
GroupMisfitBy t =
    MisfitInsideBy (weights_in_range two_levels ∷ []) (group_in_range (key t) (reduced_to (Reducer.Min 0)) two_levels) (grouped (key t) (reduced_to (Reducer.Min 0)) two_levels) 1

group_misfit_by : GroupMisfitBy (const (Int (pos 0)))
unfolding dataset_of empty set_at in_range ratio reduced zero_ratio one_ratio gcd gcd_within
group_misfit_by = (refl, refl)

pub group_misfit : GroupMisfit
group_misfit = subst GroupMisfitBy (sym nought_is) group_misfit_by

abbrev JoinMisfitBy : Term → Type 0
JoinMisfitBy t =
    MisfitInsideBy (weights_in_range heavy ∷ weights_in_range heavy ∷ []) (join_in_range (key t) (key t) heavy heavy) (joined (key t) (key t) heavy heavy) 2

join_misfit_by : JoinMisfitBy (const (Int (pos 0)))
unfolding dataset_of empty set_at in_range ratio reduced zero_ratio one_ratio gcd gcd_within
join_misfit_by = (refl, refl)

pub join_misfit : JoinMisfit
join_misfit = subst JoinMisfitBy (sym nought_is) join_misfit_by
