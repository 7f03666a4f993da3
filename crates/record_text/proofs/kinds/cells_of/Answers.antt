use Rattle.std.proofs.Common.{refl, arith}
use Rattle.record_text.specs.declared.kinds.Kind.TheVariants.{Int}
use Rattle.record_text.proofs.Filling.{filled, filled_next}
use Rattle.record_text.proofs.kinds.cells_of.Goals as goal

pub loop-i-preserved : goal.loop-i-preserved
loop-i-preserved c = filled_next c.args.kinds.now c.loop-i.cells _ c.loop-i.i _ Int c.loop-i-test.true (omega arith) refl c.loop-i.invariant

pub returns : goal.returns
returns c = filled Int 16 c.args.kinds.now c.loop-i.cells c.loop-i.i (omega arith) (omega arith) c.loop-i.invariant
