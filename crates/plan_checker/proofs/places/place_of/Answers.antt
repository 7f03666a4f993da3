use Rattle.std.proofs.Common.{◌≡◌, false, get_or, arith, ap, below_more, sym, ◌∙◌}
use Rattle.std.proofs.lemmas.Option.{get_or_from_slice_get}
use Rattle.record_text.specs.Names.{name_eq}
use Rattle.plan_model.specs.declared.source_types.SourceType.{SourceType}
use Rattle.plan_checker.proofs.Positions.{position_found, position_none}
use Rattle.plan_checker.proofs.places.place_of.Goals as goal

pub returns-then-eq : goal.returns-then-eq
returns-then-eq c =
    let has = λ (t : SourceType). name_eq c.args.name.now t.name in
    sym (position_found has c.args.types.now c.loop-i.i _ c.at.ensures (sym c.eq.ensures ∙ c.if-eq.true) (λ k below. c.loop-i.invariant k _ below))

pub loop-i-preserved : goal.loop-i-preserved
loop-i-preserved c k t below =
    let has = λ (u : SourceType). name_eq c.args.name.now u.name in
    let here = ap has (get_or_from_slice_get c.args.types.now c.loop-i.i _ t c.at.ensures) ∙ sym c.eq.ensures ∙ c.if-eq.false in
    below_more (λ j. has (get_or c.args.types.now j t) ≡ false) c.loop-i.i (λ j under. c.loop-i.invariant j t under) here k below

pub returns : goal.returns
returns c =
    let has = λ (t : SourceType). name_eq c.args.name.now t.name in
    sym (position_none has c.args.types.now c.loop-i.i (omega arith) (λ k x below. c.loop-i.invariant k x below))
