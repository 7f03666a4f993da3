use Rattle.std.proofs.Common.{◌∙◌, ap, position}
use Rattle.record_text.specs.Names.{name_eq}
use Rattle.request_machine.specs.Named.{plan_name}
use Rattle.session_data.specs.Planned.{plan_states}
use Rattle.request_machine.proofs.Named.{position-names}
use Rattle.session_core.proofs.parts.Parts.plan_place.Goals as goal

pub returns : goal.returns
returns c =
    c.get_index_of.ensures.index ∙ ap (position (name_eq c.args.name)) c.requires.kept.names
    ∙ position-names plan_name c.args.name (plan_states c.args.self.now.plans.items)
