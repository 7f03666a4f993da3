use Rattle.std.proofs.Common.{◌≡◌, ◌≤◌, length, sym, ◌∙◌, ap, arith}
use Rattle.std.proofs.lemmas.List.{length-take-le, take-append-le, take_all}
use Rattle.noise_lines.specs.Lines.{front_len}
use Rattle.noise_lines.proofs.front.LineFront.push.Goals as goal

-- as many bytes as may be are kept
pub returns-else-self-lt-KEPT : goal.returns-else-self-lt-KEPT
returns-else-self-lt-KEPT c =
    let now = c.args.self.now in
    let within : c.self.inside.len ≤ length c.self.inside.bytes = omega (arith, c.self.told, c.self.invariant) in
    let full : length now ≡ front_len =
    ap length (sym c.self.view_is) ∙ length-take-le c.self.inside.len c.self.inside.bytes within
    ∙ omega (arith, c.self.invariant) in
    sym (take-append-le front_len now _ (omega arith) ∙ take_all front_len now (omega arith))
