-- Exact weights, case by case.
use Rattle.std.proofs.Common.{◌≡◌, ℕ, List, ap, refl, sym, Some, None, Bool, map, get_or}
use Rattle.std.specs.Option.{option_map_or}
use Rattle.record_text.specs.declared.kinds.Kind.{Kind}
use Rattle.datasets.specs.Dataset.{Dataset, at}
use Rattle.datasets.specs.Entries.{Row}
use Rattle.messages.specs.declared.refusal.Refusal.{Refusal}
use Rattle.messages.specs.declared.refusal.Refusal.TheVariants as refusal
use Rattle.messages.specs.declared.thing.Thing.TheVariants as thing
use Rattle.messages.specs.declared.target.Target.TheVariants as target
use Rattle.messages.specs.declared.reply.Reply.TheVariants as reply
use Rattle.request_machine.specs.Declarations.{columns_of}
use Rattle.request_machine.specs.LookUps.{exact_reply, looked_up, output_of, row_refusal}
use Rattle.request_machine.specs.Named.{place_named, plan_name, source_name}
use Rattle.request_machine.specs.State.{PlanState, SourceState, State}
use Rattle.request_machine.proofs.Named.{named_here, named_nowhere}

pub looked_up-refused : (curator : Bool) (kinds : List Kind) (A : Dataset) (rows : List Row) (why : Refusal) → Some why ≡ row_refusal curator kinds rows
    → looked_up curator kinds A rows ≡ reply.Refused why
looked_up-refused curator kinds A rows why refused = ap (λ refusal. option_map_or (λ w. reply.Refused w) refusal (reply.Weights (map (at A) rows))) (sym refused)

pub looked_up-weights : (curator : Bool) (kinds : List Kind) (A : Dataset) (rows : List Row) → None ≡ row_refusal curator kinds rows
    → looked_up curator kinds A rows ≡ reply.Weights (map (at A) rows)
looked_up-weights curator kinds A rows refused = ap (λ refusal. option_map_or (λ w. reply.Refused w) refusal (reply.Weights (map (at A) rows))) (sym refused)

pub source_unknown : (state : State) (name : List ℕ) (rows : List Row) → place_named source_name name state.sources ≡ None
    → exact_reply state (target.Source name) rows ≡ reply.Refused (refusal.Unknown thing.Source name)
unfolding exact_reply
source_unknown state name rows none = rw (named_nowhere source_name name state.sources none) refl

pub source_known : (state : State) (name : List ℕ) (rows : List Row) (i : ℕ) (x : SourceState) → place_named source_name name state.sources ≡ Some i → x ≡ get_or state.sources i x
    → exact_reply state (target.Source name) rows ≡ looked_up state.curator x.kinds x.rows rows
unfolding exact_reply
source_known state name rows i x here is = rw ((named_here source_name name state.sources i x here is).1) refl

pub plan_unknown : (state : State) (name : List ℕ) (rows : List Row) → place_named plan_name name state.plans ≡ None
    → exact_reply state (target.Plan name) rows ≡ reply.Refused (refusal.Unknown thing.Plan name)
unfolding exact_reply
plan_unknown state name rows none = rw (named_nowhere plan_name name state.plans none) refl

pub plan_known : (state : State) (name : List ℕ) (rows : List Row) (i : ℕ) (x : PlanState) → place_named plan_name name state.plans ≡ Some i → x ≡ get_or state.plans i x
    → exact_reply state (target.Plan name) rows ≡ looked_up state.curator (columns_of state.sources x.plan) (output_of state.sources x.plan) rows
unfolding exact_reply
plan_known state name rows i x here is = rw ((named_here plan_name name state.plans i x here is).1) refl
