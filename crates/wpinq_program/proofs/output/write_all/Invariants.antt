use Rattle.std.proofs.Common.{◌≤◌, ◌-◌, length, take}
use Rattle.io_edge.specs.Known.{Gains}
use Rattle.wpinq_program.proofs.output.write_all.Given as goal

abbrev pub invariant-loop-at : goal.invariant-loop-at
invariant-loop-at g l = record {
  within : l.at ≤ length l.text;
  written : Gains (g.K.Sink.written l.initial.out) (g.K.Sink.written l.out) (take l.at l.text);
  later : g.K.Sink.faults l.initial.out ≤ g.K.Sink.faults l.out;
}

abbrev pub decreases-loop-at : goal.decreases-loop-at
decreases-loop-at g l = length l.text - l.at
