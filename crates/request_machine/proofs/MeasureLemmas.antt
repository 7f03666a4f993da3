-- Budgets and measurements, case by case.
use Rattle.std.proofs.Common.{◌≡◌, ℕ, List, [], refl, ap, ap₂, ◌∙◌, Some, None, Option, get_or, ◌-◌}
use Rattle.datasets.specs.Entries.{Row}
use Rattle.messages.specs.declared.refusal.Refusal.{Refusal}
use Rattle.messages.specs.declared.refusal.Refusal.TheVariants as refusal
use Rattle.messages.specs.declared.thing.Thing.TheVariants as thing
use Rattle.messages.specs.declared.reply.Reply.TheVariants as reply
use Rattle.request_machine.specs.Charges.{budget_refusal, charges_of}
use Rattle.request_machine.specs.Declarations.{columns_of}
use Rattle.request_machine.specs.LookUps.{first_row_fault}
use Rattle.request_machine.specs.Measures.{budget_reply, measured, measured_unless, measurement}
use Rattle.request_machine.specs.Named.{place_named, plan_name, source_name}
use Rattle.request_machine.specs.Stages.{Measured, Told}
use Rattle.request_machine.specs.State.{PlanState, SourceState, State, types_of}
use Rattle.request_machine.proofs.Named.{named_here, named_nowhere}

pub budget_unknown : (state : State) (name : List ℕ) → place_named source_name name state.sources ≡ None
    → budget_reply state name ≡ reply.Refused (refusal.Unknown thing.Source name)
unfolding budget_reply
budget_unknown state name none = rw (named_nowhere source_name name state.sources none) refl

pub budget_known : (state : State) (name : List ℕ) (i : ℕ) (x : SourceState) → place_named source_name name state.sources ≡ Some i → x ≡ get_or state.sources i x
    → budget_reply state name ≡ reply.Budget (x.total - x.spent) x.spent x.total
unfolding budget_reply
budget_known state name i x here is = rw ((named_here source_name name state.sources i x here is).1) refl

module _ (state : State) (name : List ℕ) (rows : List Row) (epsilon : ℕ) where
  pub measured_unknown : place_named plan_name name state.plans ≡ None → measured state name rows epsilon ≡ Told state (reply.Refused (refusal.Unknown thing.Plan name))
  unfolding measured
  measured_unknown none = rw (named_nowhere plan_name name state.plans none) refl

  module _ (i : ℕ) (x : PlanState) (here : place_named plan_name name state.plans ≡ Some i) (is : x ≡ get_or state.plans i x) where
    measured_here : measured state name rows epsilon
        ≡ measured_unless (first_row_fault (columns_of state.sources x.plan) [] 0 rows) (budget_refusal state.sources (charges_of epsilon x.plan (types_of state.sources))) state (measurement state x.plan rows epsilon)
    unfolding measured
    measured_here = rw ((named_here plan_name name state.plans i x here is).1) refl

    pub measured_row : (why : Refusal) → first_row_fault (columns_of state.sources x.plan) [] 0 rows ≡ Some why → measured state name rows epsilon ≡ Told state (reply.Refused why)
    measured_row why fault =
        measured_here
        ∙ ap (λ (o : Option Refusal). measured_unless o (budget_refusal state.sources (charges_of epsilon x.plan (types_of state.sources))) state (measurement state x.plan rows epsilon)) fault

    pub measured_short : (why : Refusal) → first_row_fault (columns_of state.sources x.plan) [] 0 rows ≡ None → budget_refusal state.sources (charges_of epsilon x.plan (types_of state.sources)) ≡ Some why
        → measured state name rows epsilon ≡ Told state (reply.Refused why)
    measured_short why fit short =
        measured_here ∙ ap₂ (λ (o p : Option Refusal). measured_unless o p state (measurement state x.plan rows epsilon)) fit short

    pub measured_ready : first_row_fault (columns_of state.sources x.plan) [] 0 rows ≡ None → budget_refusal state.sources (charges_of epsilon x.plan (types_of state.sources)) ≡ None
        → measured state name rows epsilon ≡ Measured (measurement state x.plan rows epsilon)
    measured_ready fit enough =
        measured_here ∙ ap₂ (λ (o p : Option Refusal). measured_unless o p state (measurement state x.plan rows epsilon)) fit enough
