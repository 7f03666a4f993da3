-- What follows from changes of a source in the plans.
use Rattle.std.proofs.Common.{◌≡◌, ◌≤◌, ◌+◌, ℕ, List, ap, subst, sym, ◌∙◌, None}
use Rattle.std.specs.Prelude.{All}
use Rattle.plan_model.specs.declared.source_types.SourceType.{SourceType}
use Rattle.weighted_set.specs.declared.weighted.Change.{Change}
use Rattle.request_machine.specs.Updates.{first_misfit}
use Rattle.session_core.specs.Parts.{ArePending}
use Rattle.session_data.specs.Planned.{IsPrepared, IsSettled, MayTurnAll, plan_states}
use Rattle.session_data.specs.Work.{PlansWithin, follow_steps}
use Rattle.request_machine.specs.State.{family_of, types_of}
use Rattle.session_core.specs.declared.parts.Parts.{Parts}
use Rattle.session_data.specs.declared.plans.Planned.{Planned}
use Rattle.session_data.proofs.PlanLoops.{first_misfit-none}

-- the plans may be turned by the changes
pub may_turn : (parts : Parts) (at : ℕ) (changes : List Change) (plans : List Planned) → ArePending parts at changes → plans ≡ parts.plans.items
    → MayTurnAll plans (types_of parts.sources.committed) at changes (family_of parts.sources.committed) (family_of parts.sources.pending)
may_turn parts at changes plans h same = record {
  settled = subst (λ (ps : List Planned). All (IsSettled (types_of parts.sources.committed) (family_of parts.sources.committed)) ps) (sym same) h.plans;
  turns = h.turns;
}

-- the steps in which they follow the changes
pub follow_within : (parts : Parts) (at : ℕ) (changes : List Change) (plans : List Planned) (before after : ℕ) → ArePending parts at changes → plans ≡ parts.plans.items
    → PlansWithin plans at changes before after
    → after ≤ before + follow_steps (plan_states parts.plans.items) (types_of parts.sources.committed) (family_of parts.sources.committed) (family_of parts.sources.pending)
follow_within parts at changes plans before after h same within =
    let types = types_of parts.sources.committed in let F = family_of parts.sources.committed in let G = family_of parts.sources.pending in
    subst (λ (ps : List Planned). after ≤ before + follow_steps (plan_states ps) types F G) same (within types F G (may_turn parts at changes plans h same))

-- where all plans are prepared, each of them fits
pub follow_ok : (parts : Parts) (plans : List Planned) → types_of parts.sources.pending ≡ types_of parts.sources.committed
    → plan_states plans ≡ plan_states parts.plans.items
    → All (IsPrepared (types_of parts.sources.committed) (family_of parts.sources.committed) (family_of parts.sources.pending)) plans
    → first_misfit (types_of parts.sources.pending) (family_of parts.sources.pending) (plan_states parts.plans.items) ≡ None
follow_ok parts plans types states prepared =
    ap (λ (ts : List SourceType). first_misfit ts (family_of parts.sources.pending) (plan_states parts.plans.items)) types
    ∙ ap (first_misfit (types_of parts.sources.committed) (family_of parts.sources.pending)) (sym states)
    ∙ first_misfit-none (types_of parts.sources.committed) (family_of parts.sources.pending) plans (λ k d lt. (prepared k d lt).fits)
