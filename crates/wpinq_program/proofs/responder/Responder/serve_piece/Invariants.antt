use Rattle.std.proofs.Common.{◌≡◌, ◌≤◌, ◌+◌, ◌-◌, List, ℕ, length, take, true}
use Rattle.line_runs.specs.Lines.{whole_lines, open_line}
use Rattle.wpinq_program.specs.Served.{Served, seen}
use Rattle.wpinq_program.proofs.responder.Responder.serve_piece.Given as goal
use Rattle.wpinq_program.specs.Limits.{kept_of}

abbrev pub invariant-loop-len : goal.invariant-loop-len
invariant-loop-len g l = record {
  within : l.start ≤ length l.piece;
  served : (line : List ℕ) → l.initial.begun ≡ kept_of line → Served (g.F.Shelf.files l.initial.shelf)
      (seen l.initial.self (g.K.Sink.written l.initial.out) (g.N.Noise.given l.initial.noise) (g.N.Noise.faults l.initial.noise) (g.F.Shelf.faults l.initial.shelf))
      (seen l.self (g.K.Sink.written l.out) (g.N.Noise.given l.noise) (g.N.Noise.faults l.noise) (g.F.Shelf.faults l.shelf))
      (whole_lines line (take l.start l.piece)) true;
  begun : (line : List ℕ) → l.initial.begun ≡ kept_of line → l.begun ≡ kept_of (open_line line (take l.start l.piece));
  later : g.K.Sink.faults l.initial.out ≤ g.K.Sink.faults l.out;
  files : g.F.Shelf.files l.shelf ≡ g.F.Shelf.files l.initial.shelf;
  lines : l.self.lines ≤ l.initial.self.lines + l.start;
}

abbrev pub decreases-loop-len : goal.decreases-loop-len
decreases-loop-len g l = length l.piece - l.start
