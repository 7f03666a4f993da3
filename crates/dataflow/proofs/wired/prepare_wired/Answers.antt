use Rattle.std.proofs.Common.{List, Vec, Global, map, ap, refl, ◌∙◌}
use Rattle.weighted_set.specs.declared.weighted.Change.{Change}
use Rattle.weighted_set.specs.Standing.{Meaning}
use Rattle.dataflow.specs.Evaluation.{fits_at}
use Rattle.dataflow.specs.Standing.{meanings}
use Rattle.dataflow.proofs.Pairs.{KeepsInputs-twice}
use Rattle.dataflow.proofs.NodesWired.{WiresPend-put, WiresStand-kept}
use Rattle.dataflow.proofs.Works.{work-put, work-unput}
use Rattle.dataflow.proofs.wired.prepare_wired.Goals as goal

pub returns-in-Ok-put_last-clause-ok : goal.returns-in-Ok-put_last-clause-ok
returns-in-Ok-put_last-clause-ok g c F G s m =
    let of = g.N.Operator.standing in
    let sources : List (List Change) = map (λ s. s.now) c.args.sources.now in
    let lists : List (List Change) = map (λ l. l.items) c.prepare_all.new.lists.items in
    let lent : List (List Change) = map (λ l. l.items) c.as_slice.result.now in
    let stepped = c.in-Ok.ensures.ok F G s.steps m in
    let same = c.prepare_all.ensures.same in
    record {
      pending = WiresPend-put of c.args.nodes.now c.prepare_all.new.nodes same c.args.wires.now F G c.args.out.now c.put_last.new.out sources lists lent
          (ap (λ (ls : List (Vec Change Global)). map (λ l. l.items) ls) c.as_slice.ensures.value) c.requires.some c.requires.at_rest.settled stepped s c.in-Ok-put_last.ensures.ok;
      fits = λ i. ap (λ (ms : List Meaning). fits_at ms c.args.wires.now G i) same ∙ stepped.fits i;
    }

pub returns-in-Ok-put_last-clause-committed : goal.returns-in-Ok-put_last-clause-committed
returns-in-Ok-put_last-clause-committed g c F s =
    WiresStand-kept g.N.Operator.standing c.args.nodes.now c.prepare_all.new.nodes c.prepare_all.ensures.same c.args.wires.now F c.args.out.now c.put_last.new.out c.prepare_all.ensures.committed c.put_last.ensures.committed s

pub returns-in-Ok-clause-committed : goal.returns-in-Ok-clause-committed
returns-in-Ok-clause-committed g c F s =
    let of = g.N.Operator.standing in
    let e = c.prepare_all.ensures in
    WiresStand-kept of c.args.nodes.now c.abort_all.new.nodes (c.abort_all.ensures.same ∙ e.same) c.args.wires.now F c.args.out.now c.put_last.new.out
    (KeepsInputs-twice of c.args.nodes.now c.prepare_all.new.nodes c.abort_all.new.nodes e.same e.committed c.abort_all.ensures.committed) c.put_last.ensures.committed s

pub returns-clause-range : goal.returns-clause-range
returns-clause-range g c i e F G s m = c.in-Err.ensures.range i e F G s.steps m

pub returns-clause-committed : goal.returns-clause-committed
returns-clause-committed g c F s =
    WiresStand-kept g.N.Operator.standing c.args.nodes.now c.prepare_all.new.nodes c.prepare_all.ensures.same c.args.wires.now F c.args.out.now c.args.out.now c.prepare_all.ensures.committed (λ k. refl) s

pub returns-in-Ok-put_last-clause-work : goal.returns-in-Ok-put_last-clause-work
returns-in-Ok-put_last-clause-work g c F G s m =
    let sources : List (List Change) = map (λ s. s.now) c.args.sources.now in
    let lists : List (List Change) = map (λ l. l.items) c.prepare_all.new.lists.items in
    let lent : List (List Change) = map (λ l. l.items) c.as_slice.result.now in
    let stepped = c.in-Ok.ensures.ok F G s.steps m in
    work-put (meanings g.N.Operator.standing c.args.nodes.now) c.args.wires.now F G c.args.steps.now c.prepare_all.new.steps c.put_last.new.steps sources lists lent
    (ap (λ (ls : List (Vec Change Global)). map (λ l. l.items) ls) c.as_slice.ensures.value) c.requires.some stepped.changes (c.prepare_all.ensures.work F G s.steps m) c.put_last.ensures.ticks

pub returns-in-Ok-clause-work : goal.returns-in-Ok-clause-work
returns-in-Ok-clause-work g c F G s m =
    let sources : List (List Change) = map (λ s. s.now) c.args.sources.now in
    let lists : List (List Change) = map (λ l. l.items) c.prepare_all.new.lists.items in
    let lent : List (List Change) = map (λ l. l.items) c.as_slice.result.now in
    let stepped = c.in-Ok.ensures.ok F G s.steps m in
    work-put (meanings g.N.Operator.standing c.args.nodes.now) c.args.wires.now F G c.args.steps.now c.prepare_all.new.steps c.put_last.new.steps sources lists lent
    (ap (λ (ls : List (Vec Change Global)). map (λ l. l.items) ls) c.as_slice.ensures.value) c.requires.some stepped.changes (c.prepare_all.ensures.work F G s.steps m) c.put_last.ensures.ticks

pub returns-clause-work : goal.returns-clause-work
returns-clause-work g c F G s m =
    work-unput (meanings g.N.Operator.standing c.args.nodes.now) c.args.wires.now F G c.args.steps.now c.prepare_all.new.steps (c.prepare_all.ensures.work F G s.steps m)
