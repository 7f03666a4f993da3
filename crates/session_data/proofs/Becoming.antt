-- What the graph of a plan becomes as its sources change.
use Rattle.std.proofs.Common.{◌≡◌, ◌<◌, ◌≤◌, ℕ, List, Bool, true, false, refl, sym, ap, ap₂, subst, ◌∙◌, length, take, true≢false, Some, None}
use Rattle.plan_model.specs.Acceptance.{Accepts}
use Rattle.plan_model.specs.Evaluation.{Family, eval}
use Rattle.plan_model.specs.Fits.{misfit}
use Rattle.plan_model.specs.Types.{Keeps}
use Rattle.plan_model.specs.declared.source_types.SourceType.{SourceType}
use Rattle.plan_model.specs.declared.step.Step.{Step}
use Rattle.weighted_set.specs.declared.weighted.Change.{Change}
use Rattle.flow_graph.specs.Graphs.{GraphCommits, GraphKeeps, IsSameGraph}
use Rattle.flow_graph.specs.declared.flow.FlowGraph.{FlowGraph}
use Rattle.session_data.specs.Flow.{Becomes, StandsFor, StandsPending, TurnsInto}
use Rattle.session_data.specs.Planned.{Holds, IsPrepared, IsSettled}
use Rattle.session_data.specs.declared.plans.Planned.{Planned}
use Rattle.session_data.proofs.FirstSources.{TurnsInto-first, eval-first, first-same, length-Keeps, misfit-first}

-- what is pending, or what the graph stands for where nothing is, it stands for once that is committed
pub committed_becomes : (old new : FlowGraph) (F : Family) → Becomes old F → GraphCommits old new → (old.pending ≡ false → GraphKeeps old new) → StandsFor new F
committed_becomes old new F becomes committed unchanged = either old.pending refl
  where
    either : (b : Bool) → old.pending ≡ b → StandsFor new F
    either true is = committed F (becomes.pending is)
    either false is = unchanged is F (becomes.idle is)

-- the plan on a family of these types does what its graph's plan does on the first of them
module _ (types : List SourceType) (F : Family) (planned : Planned) (h : Holds types F planned) where
  abbrev count : ℕ
  count = length planned.graph.types

  pub accepted_first : Accepts planned.plan (take count types)
  accepted_first = subst (λ (ts : List SourceType). Accepts planned.plan ts) (sym h.first) (subst (λ (plan : List Step). Accepts plan planned.graph.types) h.same h.stands.plan.kept.accepted)

  pub misfit-of_graph : (X : Family) → length X ≡ length types → misfit planned.plan types X ≡ misfit planned.graph.plan planned.graph.types (take count X)
  misfit-of_graph X size =
      misfit-first planned.plan types X count size accepted_first ∙ ap₂ (λ (plan : List Step) (ts : List SourceType). misfit plan ts (take count X)) (sym h.same) h.first

  pub eval-of_graph : eval planned.plan types F ≡ eval planned.graph.plan planned.graph.types (take count F)
  eval-of_graph = eval-first planned.plan types F count h.size accepted_first ∙ ap₂ (λ (plan : List Step) (ts : List SourceType). eval plan ts (take count F)) (sym h.same) h.first

module _ (types : List SourceType) (source : ℕ) (changes : List Change) (F G : Family) (planned : Planned) (h : IsSettled types F planned) (turns : TurnsInto types source changes F G) where
  abbrev n : ℕ
  n = length planned.graph.types

  size_after : length G ≡ length types
  size_after = length-Keeps types G turns.keeps

  -- a source of the graph changes
  pub turns_early : source < n → TurnsInto planned.graph.types source changes (take n F) (take n G)
  turns_early early = subst (λ (ts : List SourceType). TurnsInto ts source changes (take n F) (take n G)) h.holds.first (TurnsInto-first types source changes F G n early turns)

  -- another source changes, which the graph doesn't know
  pub IsPrepared-late : n ≤ source → IsPrepared types F G planned
  IsPrepared-late late =
      let same : take n G ≡ take n F = first-same types source changes F G n late h.holds.size turns in
      record {
        holds = h.holds;
        fits = misfit-of_graph types F planned h.holds G size_after ∙ ap (misfit planned.graph.plan planned.graph.types) same ∙ sym (misfit-of_graph types F planned h.holds F h.holds.size) ∙ h.holds.fits;
        size = size_after;
        becomes = record {
          pending = λ is. absurd (true≢false (sym is ∙ h.idle));
          idle = λ _. subst (StandsFor planned.graph) (sym same) h.holds.stands;
        };
      }

-- the graph after a call that keeps what it stands for
module _ (types : List SourceType) (F : Family) (planned : Planned) (new : FlowGraph) (same : IsSameGraph planned.graph new) (kept : GraphKeeps planned.graph new) (h : Holds types F planned) where
  pub Holds-kept : Holds types F (record planned { graph = new })
  Holds-kept = record {
    accepted = h.accepted;
    fits = h.fits;
    size = h.size;
    same = same.0 ∙ h.same;
    first = subst (λ (ts : List SourceType). take (length ts) types ≡ ts) (sym same.1) h.first;
    stands = subst (λ (ts : List SourceType). StandsFor new (take (length ts) F)) (sym same.1) (kept (take (length planned.graph.types) F) h.stands);
    cols = h.cols;
    uses = h.uses;
  }

-- what is pending in the graph is what the family gives
pub Becomes-pending : (graph : FlowGraph) (F : Family) → StandsPending graph F → Becomes graph F
Becomes-pending graph F pends = record { pending = λ _. pends; idle = λ is. absurd (true≢false (sym pends.flag ∙ is)) }
