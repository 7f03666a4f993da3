-- Operators on no rows: whatever they pass through there is in range, and they take the columns that they are made for.
use Rattle.std.specs.Prelude.{◌≡◌, ◌&&◌, true, List}
use Rattle.std.proofs.Common.{ap₂, refl, subst, sym}
use Rattle.ratios.specs.Ratio.{Ratio}
use Rattle.record_text.specs.declared.kinds.Kind.{Kind}
use Rattle.datasets.specs.Dataset.{Dataset, dataset_of, empty}
use Rattle.datasets.specs.Entries.{Row}
use Rattle.operators.specs.InRange.{weights_in_range}
use Rattle.operators.specs.Operators.{filtered}
use Rattle.plan_model.specs.Evaluation.{passes}
use Rattle.plan_model.specs.Types.{HasColumns}
use Rattle.plan_model.specs.declared.expr.Expr.{Expr}
use Rattle.op_groupby.specs.Group.{GroupParts, group_fits}
use Rattle.op_join.specs.Join.{JoinParts, join_fits}
use Rattle.op_linear.specs.Many.{ManyParts, many_fits}
use Rattle.op_linear.specs.Select.{SelectParts, select_fits}
use Rattle.op_parts.proofs.Takes.{both_tested, columns_tested}
use Rattle.op_parts.specs.Takes.{both_have_columns, has_columns}
use Rattle.op_setwise.specs.Setwise.{SetParts, set_fits}
use Rattle.op_shave.specs.Shave.{shave_fits}
use Rattle.trial_rows.specs.Columns.{two_ints}

pub filter_fits-empty : (test : Expr) → weights_in_range (filtered (passes test) empty) ≡ true
unfolding dataset_of empty
filter_fits-empty test = refl

pub select_fits-empty : (select : SelectParts) → select_fits select empty ≡ true
unfolding empty
select_fits-empty select = refl

pub many_fits-empty : (many : ManyParts) → many_fits many empty ≡ true
unfolding empty
many_fits-empty many = refl

pub shave_fits-empty : (fs : List Ratio) → shave_fits fs empty ≡ true
unfolding empty
shave_fits-empty fs = refl

pub set_fits-empty : (op : SetParts) → set_fits op empty empty ≡ true
unfolding dataset_of empty
set_fits-empty op = refl

pub join_fits-empty : (op : JoinParts) → join_fits op empty empty ≡ true
unfolding dataset_of empty
join_fits-empty op = refl

pub group_fits-empty : (op : GroupParts) → group_fits op empty ≡ true
unfolding dataset_of empty
group_fits-empty op = refl

-- an operator of one input takes rows of two numbers where it is made for them
pub takes-one : (cols : List Kind) → cols ≡ two_ints → (C : Dataset) → HasColumns two_ints C → has_columns cols C ≡ true
takes-one cols is C has = columns_tested cols C (subst (λ ks. HasColumns ks C) (sym is) has)

-- a join takes such rows on either side
pub takes-sides : (left right : List Kind) → left ≡ two_ints → right ≡ two_ints → (C D : Dataset) → HasColumns two_ints C → HasColumns two_ints D → (has_columns left C && has_columns right D) ≡ true
takes-sides left right left_is right_is C D has have = ap₂ (λ a b. a && b) (takes-one left left_is C has) (takes-one right right_is D have)

-- and one of two inputs alike
pub takes-both : (cols : List Kind) → cols ≡ two_ints → (C D : Dataset) → HasColumns two_ints C → HasColumns two_ints D → both_have_columns cols C D ≡ true
takes-both cols is C D left right =
    both_tested cols C D (subst (λ ks. HasColumns ks C) (sym is) left) (subst (λ ks. HasColumns ks D) (sym is) right)
