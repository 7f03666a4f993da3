use Rattle.std.specs.Prelude.{is_some}
use Rattle.std.proofs.Common.{ap, sym, ◌∙◌}
use Rattle.record_text.specs.Names.{name_eq}
use Rattle.plan_model.specs.declared.source_types.SourceType.{SourceType}
use Rattle.plan_checker.proofs.Positions.{is_some-position}
use Rattle.checker_tests.proofs.checker.steps.declare.Goals as goal

pub push-requires : goal.push-requires
push-requires c =
    sym (is_some-position (λ (t : SourceType). name_eq c.in_ok-name.name t.name) c.args.types.now) ∙ sym (ap is_some c.place_of.ensures) ∙ sym c.if-is_some.ensures
