-- The rows of the sources are the changes that make them of no rows.
use Rattle.std.proofs.Common.{List, length, map, ap, sym, ◌∙◌}
use Rattle.std.proofs.lemmas.List.{length-map}
use Rattle.weighted_set.specs.Standing.{Meaning}
use Rattle.weighted_set.specs.declared.weighted.Change.{Change}
use Rattle.dataflow.specs.Evaluation.{fits_at}
use Rattle.flow_graph.specs.Fresh.{committed_family, no_rows}
use Rattle.flow_graph.proofs.Filling.{PlanStands-filled, filled_count, in_range_held, may_fill, misfit-filled}
use Rattle.flow_graph.proofs.PlanNodes.{stand_wired, wired_for}
use Rattle.flow_graph.proofs.plans.fill_plan.Goals as goal

pub prepare_wired-requires-clause-wired : goal.prepare_wired-requires-clause-wired
prepare_wired-requires-clause-wired g c =
    let types = c.args.types.now in
    let lists : List (List Change) = map (λ l. l.now) c.as_slice-3.result.now in
    let same = ap (map (λ l. l.now)) c.as_slice-3.ensures.value ∙ c.in_ok-lists.ensures ∙ ap (map (λ l. l.items)) c.as_slice.ensures.value in
    wired_for g.N.Operator.standing c.args.plan.now types c.args.nodes.now c.args.out.now (no_rows types) c.requires.fresh c.as_slice-2.result.now (c.as_slice-2.ensures.value ∙ c.in_ok-wires.ensures) (length c.as_slice-3.result.now)
    (sym (length-map c.as_slice-3.result.now (λ l. l.now)) ∙ ap length same ∙ length-map c.in_ok-rows.rows.items (λ l. l.items) ∙ c.in_ok-rows.ensures.length ∙ filled_count types c.args.sources.now c.requires.keeps)

pub prepare_wired-requires-clause-inputs : goal.prepare_wired-requires-clause-inputs
prepare_wired-requires-clause-inputs g c =
    let types = c.args.types.now in
    let of = g.N.Operator.standing in
    let wires = c.as_slice-2.result.now in
    let is = c.as_slice-2.ensures.value ∙ c.in_ok-wires.ensures in
    let same = ap (map (λ l. l.now)) c.as_slice-3.ensures.value ∙ c.in_ok-lists.ensures ∙ ap (map (λ l. l.items)) c.as_slice.ensures.value in (
      no_rows types,
      (
        committed_family c.args.sources.now,
        (
          stand_wired of c.args.plan.now types c.args.nodes.now c.args.out.now (no_rows types) c.requires.fresh wires is,
          may_fill types c.args.sources.now c.requires.keeps of c.args.plan.now c.args.nodes.now c.args.out.now c.requires.fresh wires is
              (map (λ l. l.now) c.as_slice-3.result.now) (map (λ l. l.items) c.in_ok-rows.rows.items) same (length-map c.in_ok-rows.rows.items (λ l. l.items) ∙ c.in_ok-rows.ensures.length) c.in_ok-rows.ensures.each,
        ),
      ),
    )

pub returns-in-Ok-clause-stands : goal.returns-in-Ok-clause-stands
returns-in-Ok-clause-stands g c =
    let types = c.args.types.now in
    let of = g.N.Operator.standing in
    let sources = c.args.sources.now in
    let F = no_rows types in
    let G = committed_family sources in
    let wires = c.as_slice-2.result.now in
    let is = c.as_slice-2.ensures.value ∙ c.in_ok-wires.ensures in
    let same = ap (map (λ l. l.now)) c.as_slice-3.ensures.value ∙ c.in_ok-lists.ensures ∙ ap (map (λ l. l.items)) c.as_slice.ensures.value in
    let stand = stand_wired of c.args.plan.now types c.args.nodes.now c.args.out.now F c.requires.fresh wires is in
    let may = may_fill types sources c.requires.keeps of c.args.plan.now c.args.nodes.now c.args.out.now c.requires.fresh wires is
    (map (λ l. l.now) c.as_slice-3.result.now) (map (λ l. l.items) c.in_ok-rows.rows.items) same (length-map c.in_ok-rows.rows.items (λ l. l.items) ∙ c.in_ok-rows.ensures.length) c.in_ok-rows.ensures.each in
    let turned = c.in-Ok.ensures.ok F G stand may in
    let e = c.commit_wired.ensures in
    PlanStands-filled types sources c.requires.keeps of c.args.plan.now c.args.nodes.now c.args.out.now c.requires.fresh wires is (in_range_held types sources c.requires.keeps c.in_ok-rows.ensures.in_range)
    c.commit_wired.new.nodes c.commit_wired.new.out (e.same ∙ c.in-Ok.ensures.same) (λ i. ap (λ (ms : List Meaning). fits_at ms wires G i) e.same ∙ turned.fits i) (e.committed wires G turned.pending)

pub returns-clause-range : goal.returns-clause-range
returns-clause-range g c i e =
    let types = c.args.types.now in
    let of = g.N.Operator.standing in
    let sources = c.args.sources.now in
    let F = no_rows types in
    let G = committed_family sources in
    let wires = c.as_slice-2.result.now in
    let is = c.as_slice-2.ensures.value ∙ c.in_ok-wires.ensures in
    let same = ap (map (λ l. l.now)) c.as_slice-3.ensures.value ∙ c.in_ok-lists.ensures ∙ ap (map (λ l. l.items)) c.as_slice.ensures.value in
    let stand = stand_wired of c.args.plan.now types c.args.nodes.now c.args.out.now F c.requires.fresh wires is in
    let may = may_fill types sources c.requires.keeps of c.args.plan.now c.args.nodes.now c.args.out.now c.requires.fresh wires is
    (map (λ l. l.now) c.as_slice-3.result.now) (map (λ l. l.items) c.in_ok-rows.rows.items) same (length-map c.in_ok-rows.rows.items (λ l. l.items) ∙ c.in_ok-rows.ensures.length) c.in_ok-rows.ensures.each in
    misfit-filled types sources c.requires.keeps of c.args.plan.now c.args.nodes.now c.args.out.now c.requires.fresh wires is (in_range_held types sources c.requires.keeps c.in_ok-rows.ensures.in_range) i (c.in-Err.ensures.range i e F G stand may)
