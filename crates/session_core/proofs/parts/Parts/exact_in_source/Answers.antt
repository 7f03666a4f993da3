use Rattle.std.proofs.Common.{◌∙◌, List, ap, arith, length, sym, map}
use Rattle.std.specs.Prelude.{option_map, slice_get}
use Rattle.std.proofs.lemmas.Option.{get_or_from_slice_get, slice_get-map}
use lib.ListN.{length-map}
use Rattle.datasets.specs.Dataset.{Dataset, at}
use Rattle.plan_model.specs.declared.source_types.SourceType.{SourceType}
use Rattle.messages.specs.declared.reply.Reply.TheVariants as reply
use Rattle.weighted_set.specs.Held.{HeldDatasets}
use Rattle.request_machine.specs.Named.{source_name}
use Rattle.session_core.specs.Parts.{state_of}
use Rattle.request_machine.specs.State.{SourceState}
use Rattle.request_machine.proofs.LookedUp.{looked_up-refused, looked_up-weights, source_known, source_unknown}
use Rattle.request_machine.proofs.Outcomes.{place_within}
use Rattle.session_data.proofs.Turned.{rows_here, somewhere, type_here}
use Rattle.session_core.proofs.parts.Parts.exact_in_source.Goals as goal

pub returns-in_default : goal.returns-in_default
returns-in_default c = sym (source_unknown (state_of c.args.self.now) c.args.name c.args.rows.now (sym c.in_default.ensures))

pub returns-in-Some-2 : goal.returns-in-Some-2
returns-in-Some-2 c =
    let sources = c.args.self.now.sources.committed in
    let there = somewhere sources c.in-Some.at (place_within source_name c.args.name sources c.in-Some.at (sym c.in-Some.ensures)) in
    let typed = type_here sources c.in-Some.at there.0 c.source_type-kinds.result there.1 c.source_type-kinds.ensures in
    sym (source_known (state_of c.args.self.now) c.args.name c.args.rows.now c.in-Some.at there.0 (sym c.in-Some.ensures) (sym (get_or_from_slice_get sources c.in-Some.at there.0 there.0 there.1))
    ∙ looked_up-refused c.args.self.now.curator there.0.kinds there.0.rows c.args.rows.now c.in-Some-2.refusal
    (rw (ap (λ (t : SourceType). t.kinds) typed) (sym c.in-Some-2.is ∙ c.in_ok-refusal.ensures)))

pub at-requires : goal.at-requires
at-requires c =
    let sources = c.args.self.now.sources.committed in
    let within = place_within source_name c.args.name sources c.in-Some.at (sym c.in-Some.ensures) in
    let sets = length-map c.sets.result.now (λ (set : HeldDatasets). set.committed) in
    let family = length-map sources (λ (source : SourceState). source.rows) in
    omega (arith, within, sets, family, ap length c.sets.ensures.committed)

pub returns : goal.returns
returns c =
    let sources = c.args.self.now.sources.committed in
    let there = somewhere sources c.in-Some.at (place_within source_name c.args.name sources c.in-Some.at (sym c.in-Some.ensures)) in
    let typed = type_here sources c.in-Some.at there.0 c.source_type-kinds.result there.1 c.source_type-kinds.ensures in
    let held =
    sym (ap (λ (F : List Dataset). slice_get F c.in-Some.at) c.sets.ensures.committed)
    ∙ slice_get-map (λ (set : HeldDatasets). set.committed) c.sets.result.now c.in-Some.at
    ∙ ap (option_map (λ (set : HeldDatasets). set.committed)) c.at.ensures in
    let rows = rows_here sources c.in-Some.at there.0 c.at.result.now.committed there.1 held in
    ap reply.Weights (c.in_ok-weights.ensures ∙ ap (λ (A : Dataset). map (at A) c.args.rows.now) (sym rows))
    ∙ sym (source_known (state_of c.args.self.now) c.args.name c.args.rows.now c.in-Some.at there.0 (sym c.in-Some.ensures) (sym (get_or_from_slice_get sources c.in-Some.at there.0 there.0 there.1))
    ∙ looked_up-weights c.args.self.now.curator there.0.kinds there.0.rows c.args.rows.now
    (rw (ap (λ (t : SourceType). t.kinds) typed) (sym c.in_default-2.is ∙ c.in_ok-refusal.ensures)))
