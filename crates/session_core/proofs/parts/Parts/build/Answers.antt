use Rattle.std.proofs.Common.{◌≡◌, ◌∙◌, ◌++◌, ◌∷◌, [], List, ap, ap₂, arith, length, subst, sym, take}
use Rattle.std.proofs.lemmas.List.{take_all}
use lib.ListN.{length-map}
use Rattle.budget_book.specs.Asks.{AreAsks}
use Rattle.budget_book.specs.declared.ask.Ask.{Ask}
use Rattle.request_machine.specs.Charges.{asks_from, by_name, uses_of}
use Rattle.session_data.proofs.UsedLemmas.{uses-asked}
use Rattle.plan_checker.specs.Checked.{CheckedPlan}
use Rattle.plan_model.specs.Evaluation.{Family}
use Rattle.plan_model.specs.Fits.{misfit}
use Rattle.plan_model.specs.Types.{Keeps}
use Rattle.plan_model.specs.declared.step.Step.{Step}
use Rattle.plan_model.specs.declared.source_types.SourceType.{SourceType}
use Rattle.messages.specs.declared.refusal.Refusal.TheVariants as refusal
use Rattle.messages.specs.declared.reply.Reply.{Reply}
use Rattle.messages.specs.declared.reply.Reply.TheVariants as reply
use Rattle.session_data.specs.Flow.{StandsFor, committed_family}
use Rattle.request_machine.specs.Declarations.{planned}
use Rattle.session_core.specs.Parts.{state_of}
use Rattle.request_machine.specs.State.{SourceState, State, family_of, new_plan, type_of, types_of}
use Rattle.session_data.specs.Planned.{plan_states}
use Rattle.session_data.specs.declared.plans.Planned.{Planned}
use Rattle.session_core.proofs.ComesTo.{ComesTo-told}
use Rattle.session_core.proofs.NewPlans.{length-checked, planned_fit, planned_told, planned_unfit}
use Rattle.session_data.proofs.Typed.{Keeps-sound}
use Rattle.session_core.proofs.parts.Parts.build.Goals as goal

pub build-requires-clause-keeps : goal.build-requires-clause-keeps
build-requires-clause-keeps g c =
    let sources = c.args.self.now.sources.committed in
    subst (λ (types : List SourceType). Keeps types (committed_family c.sets-sets.result.now)) (sym c.types-types.ensures)
    (subst (λ (F : Family). Keeps (types_of sources) F) (sym c.sets-sets.ensures.committed) (Keeps-sound sources c.requires.settled.kept.sound.all_sound))

pub returns-in-Err-Range : goal.returns-in-Err-Range
returns-in-Err-Range g c =
    let old = c.args.self.now in
    let new = new_plan c.args.name c.args.plan in
    let unfit = c.in-Err-Range.ensures.range c.in-Err-Range.step c.in-Err-Range.field-0-is in
    ComesTo-told old c.refused.result (reply.Refused (refusal.Range c.args.name c.in-Err-Range.step)) (planned (state_of old) new) c.requires.settled
    c.refused.ensures.reply c.refused.ensures.effect
    (planned_unfit (state_of old) new c.in-Err-Range.step c.requires.new c.requires.checked.0
    (ap₂ (λ (types : List SourceType) (F : Family). misfit c.args.plan types F) (sym c.types-types.ensures) (sym c.sets-sets.ensures.committed) ∙ unfit))

pub used_sources-requires : goal.used_sources-requires
used_sources-requires g c = length-checked c.args.self.now.sources.committed c.args.plan c.args.checked.now c.requires.checked ∙ sym c.len.ensures

pub named-requires : goal.named-requires
named-requires g c =
    let sources = c.args.self.now.sources.committed in
    subst (λ (asks : List Ask). AreAsks (length sources) asks)
    (sym (c.as_slice.ensures.value ∙ c.in_ok-uses.ensures ∙ ap (λ (k : CheckedPlan). asks_from 0 k.uses) c.requires.checked.1))
    (subst (λ n. AreAsks n (uses_of c.args.plan (types_of sources))) (length-map sources type_of) (uses-asked c.args.plan (types_of sources) c.requires.checked.0))

pub returns : goal.returns
returns g c =
    let old = c.args.self.now in
    let sources = old.sources.committed in
    let checked = c.args.checked.now in
    let added : Planned = record { name = c.args.name; plan = c.args.plan; graph = c.in-Ok.graph; cols = c.columns-cols.result; uses = c.in_ok-uses.uses } in
    let types = types_of sources in
    let F = family_of sources in
    let is : added.graph.types ≡ types = c.in-Ok.ensures.graph.1 ∙ c.types-types.ensures in
    let size : length F ≡ length types = length-map sources (λ (source : SourceState). source.rows) ∙ sym (length-map sources type_of) in
    let stands : StandsFor added.graph F = subst (StandsFor added.graph) c.sets-sets.ensures.committed c.in-Ok.ensures.stands in
    let fits = ap₂ (λ (plan : List Step) (ts : List SourceType). misfit plan ts F) (sym c.in-Ok.ensures.graph.0) (sym is) ∙ stands.plan.family.fits in
    record {
      ready = (
        c.requires.settled,
        c.requires.new,
        record {
          holds = record {
            accepted = c.requires.checked.0;
            fits = fits;
            size = size;
            same = c.in-Ok.ensures.graph.0;
            first = subst (λ (ts : List SourceType). take (length ts) types ≡ ts) (sym is) (take_all (length types) types (omega arith));
            stands = subst (λ (ts : List SourceType). StandsFor added.graph (take (length ts) F)) (sym is) (subst (StandsFor added.graph) (sym (take_all (length types) F (omega arith))) stands);
            cols = c.columns-cols.ensures ∙ ap (λ (k : CheckedPlan). k.columns) c.requires.checked.1;
            uses = c.in_ok-uses.ensures ∙ ap (λ (k : CheckedPlan). asks_from 0 k.uses) c.requires.checked.1;
          };
          idle = c.in-Ok.ensures.idle;
        },
      );
      leads =
          ap (λ (r : Reply). let o : State × Reply = (record (state_of old) { plans = plan_states old.plans.items ++ new_plan c.args.name c.args.plan ∷ [] }, r) in o)
          (planned_told (state_of old) c.args.plan checked c.columns-cols.result c.in_ok-named.named c.requires.checked c.columns-cols.ensures
          (c.in_ok-named.ensures ∙ ap (by_name sources) (c.as_slice.ensures.value ∙ c.in_ok-uses.ensures)))
          ∙ sym (planned_fit (state_of old) (new_plan c.args.name c.args.plan) c.requires.new c.requires.checked.0 fits);
    }
