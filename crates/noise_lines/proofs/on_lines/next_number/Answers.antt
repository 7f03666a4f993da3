use Rattle.std.proofs.Common.{◌++◌, ap, ◌∙◌}
use Rattle.noise_lines.specs.Lines.{number_of}
use Rattle.noise_lines.proofs.LineFronts.{number_of-front}
use Rattle.noise_lines.proofs.Parts.{next-number}
use Rattle.noise_lines.proofs.on_lines.next_number.Goals as goal

pub returns-in-Line : goal.returns-in-Line
returns-in-Line g c =
    let line = c.in-Line.ensures.taken in
    let number = c.number_on-number.ensures ∙ ap number_of (c.as_slice.ensures ∙ line.2) ∙ number_of-front (c.args.begun.now ++ line.0) in
    next-number _ _ _ _ _ _ _ line.0 line.1 number c.clear.ensures
