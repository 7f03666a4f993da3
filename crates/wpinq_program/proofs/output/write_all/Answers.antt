use Rattle.std.proofs.Common.{arith, length-drop}
use Rattle.std.proofs.Math.Seq.{take-add}
use Rattle.std.proofs.lemmas.List.{take_rest}
use Rattle.io_edge.proofs.KnownLemmas.{Gains-append}
use Rattle.wpinq_program.proofs.output.write_all.Goals as goal

pub loop-at-preserved : goal.loop-at-preserved
loop-at-preserved g c =
    let w = c.in_ok-at.ensures in
    record {
      within = omega (arith, length-drop c.loop-at.at c.args.text.now, w.bound);
      written = rw take-add (Gains-append _ _ _ _ _ c.loop-at.invariant.written (rw (take_rest c.args.text.now c.loop-at.at) at w.bytes));
      later = omega arith;
    }
