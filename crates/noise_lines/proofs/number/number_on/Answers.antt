use Rattle.std.proofs.Common.{ap, ◌∙◌}
use Rattle.record_text.specs.FieldAtoms.{atom_of_field, int_of_field}
use Rattle.noise_lines.proofs.Numbers.{number_in-read}
use Rattle.noise_lines.proofs.number.number_on.Goals as goal

pub returns : goal.returns
unfolding atom_of_field
returns c =
    c.number_in.ensures
    ∙ number_in-read _ _ c.atom_from_field.ensures.atom c.atom_from_field.ensures.memory
    ∙ ap int_of_field c.without_cr.ensures
