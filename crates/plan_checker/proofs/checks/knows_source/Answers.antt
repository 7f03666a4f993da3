use Rattle.std.specs.Prelude.{is_some}
use Rattle.std.proofs.Common.{ap, sym, ◌∙◌}
use Rattle.record_text.specs.Names.{name_eq}
use Rattle.plan_model.specs.declared.source_types.SourceType.{SourceType}
use Rattle.plan_model.specs.Acceptance.{knows_source}
use Rattle.plan_checker.proofs.Positions.{is_some-position}
use Rattle.plan_checker.proofs.checks.knows_source.Goals as goal

pub returns-in-Source : goal.returns-in-Source
returns-in-Source c =
    c.is_some.ensures ∙ ap is_some c.place_of.ensures ∙ is_some-position (λ (t : SourceType). name_eq c.in-Source.name t.name) c.args.types.now
    ∙ sym (ap (knows_source c.args.types.now) c.in-Source.is)
