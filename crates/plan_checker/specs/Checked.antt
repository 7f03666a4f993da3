-- What is told of an accepted plan, and which faults plans have.
use Rattle.std.specs.Prelude.{◌≡◌, ℕ, Bool, true, List, [], length, map, Some, refl}
use Rattle.std.specs.Coded.{Coded, code_by, coded×, coded_bool, coded_list, coded_ℕ}
use Rattle.std.specs.List.{range_with_len}
use Rattle.record_text.specs.contracts.kinds.Kind as kind
use Rattle.record_text.specs.declared.kinds.Kind.{Kind}
use Rattle.plan_model.specs.declared.source_types.SourceType.{SourceType}
use Rattle.plan_model.specs.declared.step.Step.{Step}
use Rattle.plan_model.specs.Acceptance.{Accepts, plan_fault_of}
use Rattle.plan_model.specs.Evaluation.{last_or}
use Rattle.plan_model.specs.Types.{columns, signs}
use Rattle.plan_model.specs.Uses.{uses}
use Rattle.plan_checker.specs.declared.walk.PlanFault.{PlanFault}
use Rattle.plan_checker.specs.declared.walk.PlanFault.TheVariants.{At, Memory}

-- the columns of a plan, whether a weight of it may be negative, and how often it uses each source
pub record CheckedPlan : Type 0 where
  pub columns : List Kind
  pub sign : Bool
  pub uses : List ℕ

-- it is stored as the three
abbrev pub checked_code : Coded CheckedPlan
checked_code =
    code_by (List Kind × (Bool × List ℕ)) (coded× (coded_list kind.the_row.coded) (coded× coded_bool (coded_list coded_ℕ)))
    (λ c. (c.columns, (c.sign, c.uses))) (λ p. record { columns = p.0; sign = p.1.0; uses = p.1.1 }) (λ _. refl)

-- those of the plan's last step
abbrev pub checked_of : List Step → List SourceType → CheckedPlan
checked_of p types = record {
  columns = last_or [] (columns p types);
  sign = last_or true (signs p types);
  uses = map (uses p types) (range_with_len 0 (length types));
}

-- the plan is accepted, and this is told of it
abbrev pub IsChecked : List Step → List SourceType → CheckedPlan → Type 0
IsChecked p types checked = Accepts p types × (checked ≡ checked_of p types)

-- the first fault of the plan; Memory is tied to nothing
abbrev pub IsPlanFault : List Step → List SourceType → PlanFault → Type 0
IsPlanFault p types (At step what) = plan_fault_of p types ≡ Some (record { step = step; what = what })
IsPlanFault p types Memory = Unit {0}
