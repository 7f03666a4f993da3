use Rattle.std.specs.Prelude.{◌≡◌, is_some, false, true}
use Rattle.std.proofs.Common.{ap, sym, ◌∙◌}
use Rattle.plan_model.specs.Acceptance.{knows_source}
use Rattle.plan_checker.proofs.Positions.{is_some-source_named}
use Rattle.plan_checker.proofs.columns.columns_of.Goals as goal

pub unreachable-requires : goal.unreachable-requires
unreachable-requires c =
    let known = is_some-source_named c.in-Source.name c.args.types.now ∙ sym (ap (knows_source c.args.types.now) c.in-Source.is) ∙ c.requires.known in
    let none = sym (ap is_some c.source_named.ensures) ∙ ap is_some c.in-None.is in
    let no : false ≡ true = sym none ∙ known in cc
