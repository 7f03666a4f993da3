use Rattle.std.specs.Prelude.{if◌then◌else◌, nat_eq}
use Rattle.std.proofs.Common.{◌≡◌, ℕ, ◌<◌, List, [], length, map, get_or, ap, sym, ◌∙◌, arith}
use Rattle.std.proofs.lemmas.List.{length-map}
use Rattle.dataflow.specs.Evaluation.{fits_at}
use Rattle.weighted_set.specs.Standing.{Meaning}
use Rattle.weighted_set.specs.declared.weighted.Change.{Change}
use Rattle.flow_graph.proofs.PlanNodes.{PlanPends-turned, PlanStands-kept, may_change_wired, misfit-wired, stand_wired, ticks_wired, wired_for}
use Rattle.flow_graph.proofs.plans.prepare_plan.Goals as goal

pub prepare_wired-requires-clause-wired : goal.prepare_wired-requires-clause-wired
prepare_wired-requires-clause-wired g c =
    let of = g.N.Operator.standing in
    let plan = c.args.plan.now in
    let types = c.args.types.now in
    let nodes = c.args.nodes.now in
    let out = c.args.out.now in
    let wires = c.as_slice.result.now in
    let is = c.as_slice.ensures.value ∙ c.in_ok-wires.ensures in
    let r = c.requires.inputs in
    wired_for of plan types nodes out r.0 r.1.1.0 wires is (length c.as_slice-2.result.now) (ap length c.as_slice-2.ensures.value ∙ c.in_ok-sources.ensures.length ∙ c.len.ensures.value)

pub prepare_wired-requires-clause-inputs : goal.prepare_wired-requires-clause-inputs
prepare_wired-requires-clause-inputs g c =
    let of = g.N.Operator.standing in
    let plan = c.args.plan.now in
    let types = c.args.types.now in
    let nodes = c.args.nodes.now in
    let out = c.args.out.now in
    let wires = c.as_slice.result.now in
    let is = c.as_slice.ensures.value ∙ c.in_ok-wires.ensures in
    let lists : List (List Change) = map (λ l. l.now) c.as_slice-2.result.now in
    let size : length lists ≡ c.len.result = length-map c.as_slice-2.result.now (λ l. l.now) ∙ ap length c.as_slice-2.ensures.value ∙ c.in_ok-sources.ensures.length in
    let each : (i : ℕ) → i < length lists → get_or lists i [] ≡ (if nat_eq i c.args.source then c.args.changes.now else []) =
    λ i within. ap (λ xs. get_or (map (λ l. l.now) xs) i []) c.as_slice-2.ensures.value ∙ c.in_ok-sources.ensures.each i (omega (arith, within, size)) in
    let r = c.requires.inputs in
    let F = r.0 in let G = r.1.0 in let s = r.1.1.0 in let t = r.1.1.1 in
    (F, (G, (stand_wired of plan types nodes out F s wires is, may_change_wired of plan types nodes out F s wires is c.args.source c.args.changes.now G t lists each)))

pub returns-in-Ok-clause-pending : goal.returns-in-Ok-clause-pending
returns-in-Ok-clause-pending g c F G s t =
    let of = g.N.Operator.standing in
    let plan = c.args.plan.now in
    let types = c.args.types.now in
    let nodes = c.args.nodes.now in
    let out = c.args.out.now in
    let wires = c.as_slice.result.now in
    let is = c.as_slice.ensures.value ∙ c.in_ok-wires.ensures in
    let lists : List (List Change) = map (λ l. l.now) c.as_slice-2.result.now in
    let size : length lists ≡ c.len.result = length-map c.as_slice-2.result.now (λ l. l.now) ∙ ap length c.as_slice-2.ensures.value ∙ c.in_ok-sources.ensures.length in
    let each : (i : ℕ) → i < length lists → get_or lists i [] ≡ (if nat_eq i c.args.source then c.args.changes.now else []) =
    λ i within. ap (λ xs. get_or (map (λ l. l.now) xs) i []) c.as_slice-2.ensures.value ∙ c.in_ok-sources.ensures.each i (omega (arith, within, size)) in
    let stand = stand_wired of plan types nodes out F s wires is in
    let may = may_change_wired of plan types nodes out F s wires is c.args.source c.args.changes.now G t lists each in
    let e = c.in-Ok.ensures in
    let turned = e.ok F G stand may in
    PlanPends-turned of plan types nodes out F s wires is c.args.source c.args.changes.now G t c.check_range.ensures c.prepare_wired.new.nodes c.prepare_wired.new.out e.same (λ i. ap (λ (ms : List Meaning). fits_at ms wires G i) (sym e.same) ∙ turned.fits i) turned.pending

pub returns-in-Ok-clause-committed : goal.returns-in-Ok-clause-committed
returns-in-Ok-clause-committed g c F s =
    let of = g.N.Operator.standing in
    let plan = c.args.plan.now in
    let types = c.args.types.now in
    let nodes = c.args.nodes.now in
    let out = c.args.out.now in
    let wires = c.as_slice.result.now in
    let is = c.as_slice.ensures.value ∙ c.in_ok-wires.ensures in
    let e = c.in-Ok.ensures in
    PlanStands-kept of plan types nodes out F s wires is c.prepare_wired.new.nodes c.prepare_wired.new.out e.same (e.committed F (stand_wired of plan types nodes out F s wires is))

pub returns-clause-range : goal.returns-clause-range
returns-clause-range g c i k F G s t =
    let of = g.N.Operator.standing in
    let plan = c.args.plan.now in
    let types = c.args.types.now in
    let nodes = c.args.nodes.now in
    let out = c.args.out.now in
    let wires = c.as_slice.result.now in
    let is = c.as_slice.ensures.value ∙ c.in_ok-wires.ensures in
    let lists : List (List Change) = map (λ l. l.now) c.as_slice-2.result.now in
    let size : length lists ≡ c.len.result = length-map c.as_slice-2.result.now (λ l. l.now) ∙ ap length c.as_slice-2.ensures.value ∙ c.in_ok-sources.ensures.length in
    let each : (i : ℕ) → i < length lists → get_or lists i [] ≡ (if nat_eq i c.args.source then c.args.changes.now else []) =
    λ i within. ap (λ xs. get_or (map (λ l. l.now) xs) i []) c.as_slice-2.ensures.value ∙ c.in_ok-sources.ensures.each i (omega (arith, within, size)) in
    let stand = stand_wired of plan types nodes out F s wires is in
    let may = may_change_wired of plan types nodes out F s wires is c.args.source c.args.changes.now G t lists each in
    misfit-wired of plan types nodes out F s wires is c.args.source c.args.changes.now G t c.check_range.ensures i (c.in-Err.ensures.range i k F G stand may)

pub returns-clause-committed : goal.returns-clause-committed
returns-clause-committed g c F s =
    let of = g.N.Operator.standing in
    let plan = c.args.plan.now in
    let types = c.args.types.now in
    let nodes = c.args.nodes.now in
    let out = c.args.out.now in
    let wires = c.as_slice.result.now in
    let is = c.as_slice.ensures.value ∙ c.in_ok-wires.ensures in
    let e = c.in-Err.ensures in
    PlanStands-kept of plan types nodes out F s wires is c.prepare_wired.new.nodes c.prepare_wired.new.out e.same (e.committed F (stand_wired of plan types nodes out F s wires is))

pub returns-in-Ok-clause-work : goal.returns-in-Ok-clause-work
returns-in-Ok-clause-work g c F G s t =
    let of = g.N.Operator.standing in
    let plan = c.args.plan.now in
    let types = c.args.types.now in
    let nodes = c.args.nodes.now in
    let out = c.args.out.now in
    let wires = c.as_slice.result.now in
    let is = c.as_slice.ensures.value ∙ c.in_ok-wires.ensures in
    let lists : List (List Change) = map (λ l. l.now) c.as_slice-2.result.now in
    let size : length lists ≡ c.len.result = length-map c.as_slice-2.result.now (λ l. l.now) ∙ ap length c.as_slice-2.ensures.value ∙ c.in_ok-sources.ensures.length in
    let each : (i : ℕ) → i < length lists → get_or lists i [] ≡ (if nat_eq i c.args.source then c.args.changes.now else []) =
    λ i within. ap (λ xs. get_or (map (λ l. l.now) xs) i []) c.as_slice-2.ensures.value ∙ c.in_ok-sources.ensures.each i (omega (arith, within, size)) in
    ticks_wired of plan types nodes out F s wires is G c.args.steps.now c.prepare_wired.new.steps
    (c.prepare_wired.ensures.work F G (stand_wired of plan types nodes out F s wires is) (may_change_wired of plan types nodes out F s wires is c.args.source c.args.changes.now G t lists each))

pub returns-clause-work : goal.returns-clause-work
returns-clause-work g c F G s t =
    let of = g.N.Operator.standing in
    let plan = c.args.plan.now in
    let types = c.args.types.now in
    let nodes = c.args.nodes.now in
    let out = c.args.out.now in
    let wires = c.as_slice.result.now in
    let is = c.as_slice.ensures.value ∙ c.in_ok-wires.ensures in
    let lists : List (List Change) = map (λ l. l.now) c.as_slice-2.result.now in
    let size : length lists ≡ c.len.result = length-map c.as_slice-2.result.now (λ l. l.now) ∙ ap length c.as_slice-2.ensures.value ∙ c.in_ok-sources.ensures.length in
    let each : (i : ℕ) → i < length lists → get_or lists i [] ≡ (if nat_eq i c.args.source then c.args.changes.now else []) =
    λ i within. ap (λ xs. get_or (map (λ l. l.now) xs) i []) c.as_slice-2.ensures.value ∙ c.in_ok-sources.ensures.each i (omega (arith, within, size)) in
    ticks_wired of plan types nodes out F s wires is G c.args.steps.now c.prepare_wired.new.steps
    (c.prepare_wired.ensures.work F G (stand_wired of plan types nodes out F s wires is) (may_change_wired of plan types nodes out F s wires is c.args.source c.args.changes.now G t lists each))
