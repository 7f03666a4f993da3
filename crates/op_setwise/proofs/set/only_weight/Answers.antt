-- The first row of the part is its only one.
use Rattle.std.proofs.Common.{sym}
use Rattle.op_setwise.proofs.OnlyWeights.{weight-of_only}
use Rattle.op_setwise.proofs.set.only_weight.Goals as goal

pub returns-in-Some : goal.returns-in-Some
returns-in-Some c k only = weight-of_only c.args.part.now c.in-Some.entry.now (sym c.in-Some.ensures.value) c.requires k only
