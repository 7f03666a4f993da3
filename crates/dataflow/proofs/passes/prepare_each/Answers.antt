use Rattle.std.proofs.Common.{◌≡◌, ◌+◌, ◌<◌, inl, inr, List, [], ◌∷◌, ◌++◌, length, get_or, map, slice_set, Vec, Global, ap, sym, ◌∙◌, subst, arith, length-append}
use Rattle.std.proofs.lemmas.Bool.Decides.{leb_tells}
use Rattle.std.proofs.lemmas.List.{length-map, map-append}
use Rattle.std.proofs.lemmas.Option.{slice_get_within}
use Rattle.weighted_set.specs.Standing.{Meaning}
use Rattle.weighted_set.specs.declared.weighted.Change.{Change}
use Rattle.dataflow.specs.Evaluation.{Family, evals}
use Rattle.dataflow.specs.Standing.{EachStep, IsMisfit, MayChange, MayStep, StepsStand, meanings}
use Rattle.dataflow.specs.Wiring.{AreWired, wire_at}
use Rattle.dataflow.proofs.Evaluated.{fits_at-past}
use Rattle.dataflow.proofs.Faults.{named}
use Rattle.dataflow.proofs.Next.{AreNext, AreNext-more, fits_here, may-next}
use Rattle.dataflow.proofs.Pairs.{IsKept, Passed-more, Passed-next, all_kept}
use Rattle.dataflow.proofs.Works.{work-next, works-later}
use Rattle.dataflow.proofs.passes.prepare_each.Goals as goal

pub prepare_step-requires-clause-inputs : goal.prepare_step-requires-clause-inputs
prepare_step-requires-clause-inputs g c =
    let of = g.N.Operator.standing in
    let old = c.args.nodes.now in
    let new = c.loop-i.nodes in
    let wires = c.args.wires.now in
    let sources : List (List Change) = map (λ s. s.now) c.args.sources.now in
    let wired : AreWired wires (length sources) = subst (AreWired wires) (sym (length-map c.args.sources.now (λ s. s.now))) c.requires.wired in
    let i = c.loop-i.i in
    let n = get_or new i c.index-nodes-i.result in
    let within : i < length new = omega arith in
    let here = Passed-next old new i c.index-nodes-i.result c.loop-i.invariant.passed within in
    let lists : List (List Change) = map (λ l. l.items) c.as_slice.result.now in
    let next : (F G : Family) → StepsStand of old wires F → MayChange (meanings of old) wires sources F G → AreNext of old wires sources new lists F G i =
    λ F G s m. subst (λ (ls : List (Vec Change Global)). AreNext of old wires sources new (map (λ l. l.items) ls) F G i) (sym c.as_slice.ensures.value) (c.loop-i.invariant.next F G s m) in
    let may : (F G : Family) → StepsStand of old wires F → MayChange (meanings of old) wires sources F G → MayStep (of n) wires sources lists (evals (meanings of old) wires F) (evals (meanings of old) wires G) (wire_at wires i) =
    λ F G s m. may-next of old wires sources c.requires.same_length wired i n here F G s m new lists (next F G s m) in
    let s = c.requires.inputs in
    (evals (meanings of old) wires s.0, (evals (meanings of old) wires s.1.0, may s.0 s.1.0 s.1.1.0 s.1.1.1))

pub returns-in_err-push_list-in-Ok-clause-committed : goal.returns-in_err-push_list-in-Ok-clause-committed
returns-in_err-push_list-in-Ok-clause-committed g c =
    let of = g.N.Operator.standing in
    let old = c.args.nodes.now in
    let new = c.loop-i.nodes in
    let i = c.loop-i.i in
    let n = get_or new i c.index-nodes-i.result in
    let within : i < length new = omega arith in
    let here = Passed-next old new i c.index-nodes-i.result c.loop-i.invariant.passed within in
    let e = c.prepare_step.ensures in
    let m = c.prepare_step.new.node in
    (all_kept of old (slice_set new i m) (i + 1) (Passed-more (λ _ n m. IsKept of n m) old new i n m within here (e.committed, e.same) c.loop-i.invariant.passed)).0

pub returns-in_err-push_list-in-Ok-clause-same : goal.returns-in_err-push_list-in-Ok-clause-same
returns-in_err-push_list-in-Ok-clause-same g c =
    let of = g.N.Operator.standing in
    let old = c.args.nodes.now in
    let new = c.loop-i.nodes in
    let i = c.loop-i.i in
    let n = get_or new i c.index-nodes-i.result in
    let within : i < length new = omega arith in
    let here = Passed-next old new i c.index-nodes-i.result c.loop-i.invariant.passed within in
    let e = c.prepare_step.ensures in
    let m = c.prepare_step.new.node in
    (all_kept of old (slice_set new i m) (i + 1) (Passed-more (λ _ n m. IsKept of n m) old new i n m within here (e.committed, e.same) c.loop-i.invariant.passed)).1

pub returns-in-Err-clause-committed : goal.returns-in-Err-clause-committed
returns-in-Err-clause-committed g c =
    let of = g.N.Operator.standing in
    let old = c.args.nodes.now in
    let new = c.loop-i.nodes in
    let i = c.loop-i.i in
    let n = get_or new i c.index-nodes-i.result in
    let within : i < length new = omega arith in
    let here = Passed-next old new i c.index-nodes-i.result c.loop-i.invariant.passed within in
    let e = c.prepare_step.ensures in
    let m = c.prepare_step.new.node in
    (all_kept of old (slice_set new i m) (i + 1) (Passed-more (λ _ n m. IsKept of n m) old new i n m within here (e.committed, e.same) c.loop-i.invariant.passed)).0

pub returns-in-Err-clause-same : goal.returns-in-Err-clause-same
returns-in-Err-clause-same g c =
    let of = g.N.Operator.standing in
    let old = c.args.nodes.now in
    let new = c.loop-i.nodes in
    let i = c.loop-i.i in
    let n = get_or new i c.index-nodes-i.result in
    let within : i < length new = omega arith in
    let here = Passed-next old new i c.index-nodes-i.result c.loop-i.invariant.passed within in
    let e = c.prepare_step.ensures in
    let m = c.prepare_step.new.node in
    (all_kept of old (slice_set new i m) (i + 1) (Passed-more (λ _ n m. IsKept of n m) old new i n m within here (e.committed, e.same) c.loop-i.invariant.passed)).1

pub returns-in-Err-clause-range : goal.returns-in-Err-clause-range
returns-in-Err-clause-range g c =
    let of = g.N.Operator.standing in
    let old = c.args.nodes.now in
    let new = c.loop-i.nodes in
    let wires = c.args.wires.now in
    let sources : List (List Change) = map (λ s. s.now) c.args.sources.now in
    let wired : AreWired wires (length sources) = subst (AreWired wires) (sym (length-map c.args.sources.now (λ s. s.now))) c.requires.wired in
    let i = c.loop-i.i in
    let n = get_or new i c.index-nodes-i.result in
    let within : i < length new = omega arith in
    let here = Passed-next old new i c.index-nodes-i.result c.loop-i.invariant.passed within in
    let lists : List (List Change) = map (λ l. l.items) c.as_slice.result.now in
    let next : (F G : Family) → StepsStand of old wires F → MayChange (meanings of old) wires sources F G → AreNext of old wires sources new lists F G i =
    λ F G s m. subst (λ (ls : List (Vec Change Global)). AreNext of old wires sources new (map (λ l. l.items) ls) F G i) (sym c.as_slice.ensures.value) (c.loop-i.invariant.next F G s m) in
    let may : (F G : Family) → StepsStand of old wires F → MayChange (meanings of old) wires sources F G → MayStep (of n) wires sources lists (evals (meanings of old) wires F) (evals (meanings of old) wires G) (wire_at wires i) =
    λ F G s m. may-next of old wires sources c.requires.same_length wired i n here F G s m new lists (next F G s m) in
    λ k q F G s m.
    let told = named i k c.in-Err.fault (sym c.at_step.ensures ∙ q) in
    subst (IsMisfit (meanings of old) wires G) told.1
    (record {
      here = fits_here of old wires sources c.requires.same_length wired i n here G ∙ c.in-Err.ensures.range told.0 (evals (meanings of old) wires F) (evals (meanings of old) wires G) (may F G s m);
      earlier = (next F G s m).fits;
    })

pub loop-i-preserved : goal.loop-i-preserved
loop-i-preserved g c =
    let of = g.N.Operator.standing in
    let old = c.args.nodes.now in
    let new = c.loop-i.nodes in
    let wires = c.args.wires.now in
    let sources : List (List Change) = map (λ s. s.now) c.args.sources.now in
    let wired : AreWired wires (length sources) = subst (AreWired wires) (sym (length-map c.args.sources.now (λ s. s.now))) c.requires.wired in
    let i = c.loop-i.i in
    let n = get_or new i c.index-nodes-i.result in
    let within : i < length new = omega arith in
    let here = Passed-next old new i c.index-nodes-i.result c.loop-i.invariant.passed within in
    let lists : List (List Change) = map (λ l. l.items) c.as_slice.result.now in
    let next : (F G : Family) → StepsStand of old wires F → MayChange (meanings of old) wires sources F G → AreNext of old wires sources new lists F G i =
    λ F G s m. subst (λ (ls : List (Vec Change Global)). AreNext of old wires sources new (map (λ l. l.items) ls) F G i) (sym c.as_slice.ensures.value) (c.loop-i.invariant.next F G s m) in
    let may : (F G : Family) → StepsStand of old wires F → MayChange (meanings of old) wires sources F G → MayStep (of n) wires sources lists (evals (meanings of old) wires F) (evals (meanings of old) wires G) (wire_at wires i) =
    λ F G s m. may-next of old wires sources c.requires.same_length wired i n here F G s m new lists (next F G s m) in
    let e = c.prepare_step.ensures in
    let m = c.prepare_step.new.node in
    let list = c.prepare_step.new.out.items in
    let count : length lists ≡ i = length-map c.as_slice.result.now (λ l. l.items) ∙ ap length c.as_slice.ensures.value ∙ c.loop-i.invariant.size in
    let law = g.met.N.Operator.in_range n in
    let pushed : c.push_list.new.lists.items ≡ c.loop-i.lists.items ++ c.prepare_step.new.out ∷ [] = c.in_ok-push_list-in-Ok.ensures in
    let all : map (λ l. l.items) c.push_list.new.lists.items ≡ lists ++ list ∷ [] =
    ap (map (λ l. l.items)) (pushed ∙ ap (λ (ls : List (Vec Change Global)). ls ++ c.prepare_step.new.out ∷ []) (sym c.as_slice.ensures.value)) ∙ map-append (λ l. l.items) c.as_slice.result.now (c.prepare_step.new.out ∷ []) in
    record {
      size = ap length pushed ∙ length-append c.loop-i.lists.items (c.prepare_step.new.out ∷ []) ∙ ap (λ k. k + 1) c.loop-i.invariant.size;
      passed = Passed-more (λ _ n m. IsKept of n m) old new i n m within here (e.committed, e.same) c.loop-i.invariant.passed;
      next = λ F G s t.
          subst (λ (ls : List (List Change)). AreNext of old wires sources (slice_set new i m) ls F G (i + 1)) (sym all)
          (AreNext-more of old wires sources c.requires.same_length wired i n here F G s t law new lists list m count within
          (c.in-Ok.ensures.ok (evals (meanings of old) wires F) (evals (meanings of old) wires G) (may F G s t)) (next F G s t));
      work = λ F G s t.
          work-next of old wires sources c.requires.same_length wired i n here F G s t new c.as_slice.result.now c.loop-i.lists.items c.as_slice.ensures.value (c.loop-i.invariant.next F G s t)
          c.args.steps.now c.loop-i.steps c.prepare_step.new.steps (c.loop-i.invariant.work F G s t) c.prepare_step.ensures.work;
    }

pub returns-clause-ok : goal.returns-clause-ok
returns-clause-ok g c = λ F G s m.
    let of = g.N.Operator.standing in
    let new = c.loop-i.nodes in
    let wires = c.args.wires.now in
    let done = c.loop-i.invariant.next F G s m in
    let same = (all_kept of c.args.nodes.now new c.loop-i.i c.loop-i.invariant.passed).1 in
    record {
      changes = λ j l. done.steps.changes j (omega arith);
      fits = λ j. elim (leb_tells (length wires) j) [
        | inl past ↦ fits_at-past (meanings of c.args.nodes.now) wires G j past.1
        | inr within ↦ done.fits j (let l = within.1 in omega arith)
      ];
      pending = subst (λ (ms : List Meaning). EachStep (λ n. (of n).StandsPending) new wires (evals ms wires G)) (sym same)
          (λ j x e. let within = slice_get_within new j x e in done.pending j x e (omega arith));
    }

pub returns-clause-committed : goal.returns-clause-committed
returns-clause-committed g c = (all_kept g.N.Operator.standing c.args.nodes.now c.loop-i.nodes c.loop-i.i c.loop-i.invariant.passed).0

pub returns-clause-same : goal.returns-clause-same
returns-clause-same g c = (all_kept g.N.Operator.standing c.args.nodes.now c.loop-i.nodes c.loop-i.i c.loop-i.invariant.passed).1

pub returns-in_err-push_list-in-Ok-clause-work : goal.returns-in_err-push_list-in-Ok-clause-work
returns-in_err-push_list-in-Ok-clause-work g c F G s t =
    let of = g.N.Operator.standing in
    let old = c.args.nodes.now in
    let new = c.loop-i.nodes in
    let wires = c.args.wires.now in
    let sources : List (List Change) = map (λ s. s.now) c.args.sources.now in
    let wired : AreWired wires (length sources) = subst (AreWired wires) (sym (length-map c.args.sources.now (λ s. s.now))) c.requires.wired in
    let i = c.loop-i.i in
    let n = get_or new i c.index-nodes-i.result in
    let within : i < length new = omega arith in
    let here = Passed-next old new i c.index-nodes-i.result c.loop-i.invariant.passed within in
    works-later (meanings of old) wires F G c.args.steps.now c.prepare_step.new.steps (length wires) (i + 1) (omega arith)
    (work-next of old wires sources c.requires.same_length wired i n here F G s t new c.as_slice.result.now c.loop-i.lists.items c.as_slice.ensures.value (c.loop-i.invariant.next F G s t)
    c.args.steps.now c.loop-i.steps c.prepare_step.new.steps (c.loop-i.invariant.work F G s t) c.prepare_step.ensures.work)

pub returns-in-Err-clause-work : goal.returns-in-Err-clause-work
returns-in-Err-clause-work g c F G s t =
    let of = g.N.Operator.standing in
    let old = c.args.nodes.now in
    let new = c.loop-i.nodes in
    let wires = c.args.wires.now in
    let sources : List (List Change) = map (λ s. s.now) c.args.sources.now in
    let wired : AreWired wires (length sources) = subst (AreWired wires) (sym (length-map c.args.sources.now (λ s. s.now))) c.requires.wired in
    let i = c.loop-i.i in
    let n = get_or new i c.index-nodes-i.result in
    let within : i < length new = omega arith in
    let here = Passed-next old new i c.index-nodes-i.result c.loop-i.invariant.passed within in
    works-later (meanings of old) wires F G c.args.steps.now c.prepare_step.new.steps (length wires) (i + 1) (omega arith)
    (work-next of old wires sources c.requires.same_length wired i n here F G s t new c.as_slice.result.now c.loop-i.lists.items c.as_slice.ensures.value (c.loop-i.invariant.next F G s t)
    c.args.steps.now c.loop-i.steps c.prepare_step.new.steps (c.loop-i.invariant.work F G s t) c.prepare_step.ensures.work)

pub returns-clause-work : goal.returns-clause-work
returns-clause-work g c F G s t =
    works-later (meanings g.N.Operator.standing c.args.nodes.now) c.args.wires.now F G c.args.steps.now c.loop-i.steps (length c.args.wires.now) c.loop-i.i (omega arith) (c.loop-i.invariant.work F G s t)
