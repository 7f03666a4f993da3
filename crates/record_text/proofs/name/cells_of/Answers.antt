use Rattle.std.proofs.Common.{arith}
use Rattle.record_text.proofs.Filling.{filled}
use Rattle.record_text.proofs.name.cells_of.Goals as goal

pub returns : goal.returns
returns c = filled 0 32 c.args.text.now c.loop-i.cells c.loop-i.i (omega arith) (omega arith) c.loop-i.invariant
