-- Acceptance and fits, computed.
use Rattle.std.specs.Prelude.{◌≡◌, ℕ, Bool, ◌&&◌, true, false, not, if◌then◌else◌, [], ◌∷◌, Option, Some, None}
use Rattle.std.proofs.Common.{refl, sym, subst}
use Rattle.ratios.specs.Gcd.{gcd, gcd_within}
use Rattle.ratios.specs.Range.{in_range}
use Rattle.ratios.specs.Ratio.{ratio, reduced, zero_ratio}
use Rattle.record_text.specs.declared.kinds.Kind.TheVariants as kind
use Rattle.record_text.specs.KindLists.{kinds_eq}
use Rattle.datasets.specs.Dataset.{dataset_of, empty, set_at}
use Rattle.plan_model.specs.Acceptance.{Fault, fault_or}
use Rattle.plan_model.specs.Values.{Term, has_columns, is_typed, kind_in}
use Rattle.plan_model.specs.declared.plan.What.{What}
use Rattle.std.specs.Option.{unwrap_or}
use Rattle.worked_plans.specs.Accepted.{ConcatFits, ExceptIsNotCounted, JoinIsAccepted, SelectPastWidth, UnionIsCounted, UsesDouble}
use Rattle.worked_plans.proofs.Computed.{parity_is}
use Rattle.plan_model.proofs.Terms.{term_of-Col}

-- the fault of a step of which two checks are given
abbrev fault_by : ℕ → Bool → Bool → Bool → Option Fault
fault_by step in_width well_typed may_group =
    fault_or step (if not in_width then Some What.Column else if not well_typed then Some What.Kind else if not may_group then Some What.Negative else None) None

abbrev IsInt : Term → Bool
IsInt t = is_typed (kind.Int ∷ []) t && true

abbrev count_fault : Bool → Term → Option Fault
count_fault may_group t = fault_by 3 ((has_columns 1 t && true) && true) (IsInt t && true) may_group

pub except_is_not_counted : ExceptIsNotCounted
except_is_not_counted = subst (λ t. count_fault false t ≡ Some (record { step = 3; what = What.Negative })) (sym parity_is) refl

pub union_is_counted : UnionIsCounted
union_is_counted = (subst (λ t. count_fault true t ≡ None) (sym parity_is) refl, subst (λ t. count_fault true t ≡ None) (sym parity_is) refl)

abbrev int_or : Option kind.the_data → kind.the_data
int_or k = unwrap_or k kind.Int

abbrev join_fault : Term → Option Fault
join_fault t =
    fault_by 2 ((has_columns 1 t && true) && (has_columns 1 t && true))
    ((IsInt t && IsInt t) && kinds_eq (int_or (kind_in (kind.Int ∷ []) t) ∷ []) (int_or (kind_in (kind.Int ∷ []) t) ∷ [])) true

pub join_is_accepted : JoinIsAccepted
join_is_accepted = subst (λ t. join_fault t ≡ None) (sym parity_is) refl

pub uses_double : UsesDouble
uses_double = (refl, refl, refl)

pub select_past_width : SelectPastWidth
select_past_width = subst (λ t. fault_by 1 (has_columns 1 t && true) (IsInt t) true ≡ Some (record { step = 1; what = What.Column })) (sym (term_of-Col 5)) refl

pub concat_fits : ConcatFits
unfolding dataset_of empty set_at in_range ratio reduced zero_ratio gcd gcd_within
concat_fits = (refl, refl)
