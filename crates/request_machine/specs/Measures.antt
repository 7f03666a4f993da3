-- Budgets and measurements.
use Rattle.std.specs.Prelude.{ℕ, ◌-◌, List, [], map, Option, None, Some}
use Rattle.datasets.specs.Entries.{Row}
use Rattle.datasets.specs.Dataset.{at}
use Rattle.plan_model.specs.declared.step.Step.{Step}
use Rattle.messages.specs.declared.refusal.Refusal.{Refusal}
use Rattle.messages.specs.declared.refusal.Refusal.TheVariants as refusal
use Rattle.messages.specs.declared.thing.Thing.TheVariants as thing
use Rattle.messages.specs.declared.reply.Reply.{Reply}
use Rattle.messages.specs.declared.reply.Reply.TheVariants as reply
use Rattle.request_machine.specs.Charges.{after_charges, budget_refusal, by_name, charges_of}
use Rattle.request_machine.specs.Declarations.{columns_of}
use Rattle.request_machine.specs.LookUps.{first_row_fault, output_of}
use Rattle.request_machine.specs.Named.{first_named, plan_name, source_name}
use Rattle.request_machine.specs.Stages.{Measured, Measurement, Stage, Told}
use Rattle.request_machine.specs.State.{PlanState, SourceState, State, types_of}

-- ---- budgets

abbrev pub budget_of_named : Option SourceState → List ℕ → Reply
budget_of_named None name = reply.Refused (refusal.Unknown thing.Source name)
budget_of_named (Some source) name = reply.Budget (source.total - source.spent) source.spent source.total

-- what is left and spent of a source's budget, and the whole of it
unfoldable pub budget_reply : State → List ℕ → Reply
budget_reply state name = budget_of_named (first_named source_name name state.sources) name

-- ---- measurements

-- a measurement of rows in a plan's output
abbrev pub measurement : State → List Step → List Row → ℕ → Measurement
measurement state plan rows epsilon =
    let asks = charges_of epsilon plan (types_of state.sources) in
    record {
      epsilon = epsilon;
      weights = map (at (output_of state.sources plan)) rows;
      charged = by_name state.sources asks;
      new = record state { sources = after_charges state.sources asks };
    }

-- the measurement, unless a row can't be looked up or else a budget is short
abbrev pub measured_unless : Option Refusal → Option Refusal → State → Measurement → Stage
measured_unless (Some why) short state m = Told state (reply.Refused why)
measured_unless None (Some why) state m = Told state (reply.Refused why)
measured_unless None None state m = Measured m

abbrev pub measured_of : Option PlanState → State → List ℕ → List Row → ℕ → Stage
measured_of None state name rows epsilon = Told state (reply.Refused (refusal.Unknown thing.Plan name))
measured_of (Some plan) state name rows epsilon =
    measured_unless (first_row_fault (columns_of state.sources plan.plan) [] 0 rows)
    (budget_refusal state.sources (charges_of epsilon plan.plan (types_of state.sources)))
    state (measurement state plan.plan rows epsilon)

unfoldable pub measured : State → List ℕ → List Row → ℕ → Stage
measured state name rows epsilon = measured_of (first_named plan_name name state.plans) state name rows epsilon
