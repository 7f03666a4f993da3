use Rattle.std.proofs.Common.{◌≡◌, ◌≤◌, ℕ, List, ◌++◌, length, take}
use Rattle.noise_lines.specs.Lines.{front_len}
use Rattle.noise_lines.specs.Taken.{TakesPart}
use Rattle.noise_lines.proofs.take.take_line.Given as goal

abbrev pub invariant-loop-count : goal.invariant-loop-count
invariant-loop-count g l = (part : List ℕ)
    × TakesPart (g.S.Source.left l.initial.source) (g.S.Source.left l.source) part
    × (l.front ≡ take front_len (l.initial.front ++ part))
    × (length part ≡ l._count)
    × (g.S.Source.faults l.initial.source ≤ g.S.Source.faults l.source)
