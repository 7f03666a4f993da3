use Rattle.std.proofs.Common.{◌≡◌, ◌≤◌, ◌-◌}
use Rattle.wpinq_program.specs.Stream.{Streaming}
use Rattle.wpinq_program.specs.Served.{seen}
use Rattle.wpinq_program.proofs.stream.serve_stream.Given as goal

abbrev pub invariant-loop-total : goal.invariant-loop-total
invariant-loop-total g l = record {
  within : l.total ≤ l.max;
  streaming : Streaming (g.F.Shelf.files l.initial.shelf) l.total (g.S.Source.left l.initial.src) (g.S.Source.left l.src)
      (seen l.initial.responder (g.K.Sink.written l.initial.out) (g.N.Noise.given l.initial.noise) (g.N.Noise.faults l.initial.noise) (g.F.Shelf.faults l.initial.shelf))
      (seen l.responder (g.K.Sink.written l.out) (g.N.Noise.given l.noise) (g.N.Noise.faults l.noise) (g.F.Shelf.faults l.shelf))
      l.begun;
  files : g.F.Shelf.files l.shelf ≡ g.F.Shelf.files l.initial.shelf;
  lines : l.responder.lines ≤ l.total;
  read : g.S.Source.faults l.initial.src ≤ g.S.Source.faults l.src;
  written : g.K.Sink.faults l.initial.out ≤ g.K.Sink.faults l.out;
}

abbrev pub decreases-loop-total : goal.decreases-loop-total
decreases-loop-total g l = l.max - l.total
