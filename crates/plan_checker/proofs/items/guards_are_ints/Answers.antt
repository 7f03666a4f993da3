use Rattle.std.proofs.Common.{arith, sym, ◌∙◌}
use Rattle.std.specs.Prelude.{option_to_list}
use Rattle.plan_model.specs.declared.step.Item.{Item}
use Rattle.plan_model.specs.Acceptance.{are_ints}
use Rattle.plan_checker.specs.Steps.{is_int}
use Rattle.plan_checker.proofs.Members.{fails_at, list_all-flat_map, passes_more, passes_whole}
use Rattle.plan_checker.proofs.Parts.{guard-item, guard_within}
use Rattle.plan_checker.proofs.items.guards_are_ints.Goals as goal

pub guard_is_int-requires : goal.guard_is_int-requires
guard_is_int-requires c = record {
  guard = guard-item c.args.items.now c.loop-i.i _ c.at.ensures c.requires.items;
  columns = guard_within c.args.cols c.args.items.now c.loop-i.i _ c.at.ensures c.requires.columns;
}

pub returns-then-not-guard_is_int : goal.returns-then-not-guard_is_int
returns-then-not-guard_is_int c =
    let guard = λ (i : Item). option_to_list i.guard in
    sym (list_all-flat_map (is_int c.args.cols) guard c.args.items.now
    ∙ fails_at (λ i. are_ints c.args.cols (guard i)) c.args.items.now c.loop-i.i _ c.at.ensures (sym c.guard_is_int.ensures ∙ c.if-not-guard_is_int.true))

pub loop-i-preserved : goal.loop-i-preserved
loop-i-preserved c =
    passes_more (λ i. are_ints c.args.cols (option_to_list i.guard)) c.args.items.now c.loop-i.i _ c.at.ensures (sym c.guard_is_int.ensures ∙ c.if-not-guard_is_int.false) c.loop-i.invariant

pub returns : goal.returns
returns c =
    let guard = λ (i : Item). option_to_list i.guard in
    sym (list_all-flat_map (is_int c.args.cols) guard c.args.items.now
    ∙ passes_whole (λ i. are_ints c.args.cols (guard i)) c.args.items.now c.loop-i.i (omega arith) c.loop-i.invariant)
